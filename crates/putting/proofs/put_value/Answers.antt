-- The number that is put is the one that the answer gives, or 0. Assumes nothing.
use Rattle.std.proofs.Common.{ℕ, ◌≡◌, refl, ap, ◌∙◌, ◌∷◌, []}
use Rattle.std.specs.Prelude.{Result, Ok, Err, Option, Some, None}
use Rattle.std.specs.Option.{unwrap_or}
use Rattle.std.specs.Result.{result_unwrap_or}
use Rattle.rules.specs.Answers.{answer_number, value_or_zero}
use Rattle.rules.specs.declared.Refusal.{Refusal}
use Rattle.words.specs.Bytes.{number_bytes}
use Rattle.putting.specs.Outcomes.{put_on}
use Rattle.putting.proofs.put_value.Goals as goal

unwrapped : (a : Result (Option ℕ) Refusal) → unwrap_or (result_unwrap_or a None) 0 ≡ value_or_zero a
unfolding value_or_zero
unwrapped (Ok (Some n)) = refl
unwrapped (Ok None) = refl
unwrapped (Err r) = refl

pub returns : goal.returns
returns c =
    let a = c.args.answer in
    let value : c.from.result ≡ value_or_zero a = c.from.ensures ∙ (c.unwrap_or-value.ensures ∙ (ap (λ o. unwrap_or o 0) c.unwrap_or.ensures ∙ unwrapped a)) in
    c.put_figures.ensures ∙ ap (λ n. put_on (answer_number a) (number_bytes (n ∷ [])) c.args.page.now) value
