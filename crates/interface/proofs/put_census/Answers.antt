-- The number put is the answer's, and the counts are the census's, or zeros. Assumes nothing.
use Rattle.std.proofs.Common.{◌≡◌, refl, ◌∙◌, ℕ, List, Result, Ok, Err}
use Rattle.std.specs.Result.{result_unwrap_or}
use Rattle.rules.specs.Sums.{values_from}
use Rattle.rules.specs.Census.{answer_numbers, census_counts}
use Rattle.rules.specs.declared.Refusal.{Refusal}
use Rattle.interface.proofs.put_census.Goals as goal

counted : (a : Result (List ℕ) Refusal) → result_unwrap_or a (values_from 0 answer_numbers (λ k. 0)) ≡ census_counts a
unfolding census_counts
counted (Ok counts) = refl
counted (Err n) = refl

pub returns : goal.returns
unfolding values_from
returns c = c.put_figures.ensures ∙ rw (c.unwrap_or-counts.ensures, counted c.args.answer) refl
