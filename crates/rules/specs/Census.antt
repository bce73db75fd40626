-- The census of the grid: for each number of an answer, how many candidates of the grid get it when they are examined. So
-- 0 counts the permitted ones, and the number of a rule those of which it is the first broken. Assumes nothing.
use Rattle.std.specs.Prelude.{ℕ, ◌⊎◌, ◌≡◌, cond, List, T, eqb, Ok, Err, Result}
use Rattle.rules.specs.Limits.{least_fraction, most_fraction, least_ratio, least_time, most_time}
use Rattle.rules.specs.Sums.{span, sum_from, values_from}
use Rattle.rules.specs.Rules.{all_kept, FirstBroken}
use Rattle.rules.specs.Accepting.{values_of, data_rules, accept}
use Rattle.rules.specs.AgeNitrate.{largest_return_ratio}
use Rattle.rules.specs.Examining.{judge}
use Rattle.rules.specs.Answers.{answer_number}
use Rattle.rules.specs.Outcomes.{Refuses}
use Rattle.rules.specs.declared.Plant.{Plant}
use Rattle.rules.specs.declared.TankFlow.{TankFlow}
use Rattle.rules.specs.declared.Readings.{Readings}
use Rattle.rules.specs.declared.Concentrations.{Concentrations}
use Rattle.rules.specs.declared.Candidate.{Candidate}
use Rattle.rules.specs.Results.{Acceptance}
use Rattle.rules.specs.declared.Refusal.{Refusal}

-- the sum of g over all candidates of the grid of a flow
unfoldable pub sum_over_grid : TankFlow → (Candidate → ℕ) → ℕ
sum_over_grid tank g =
    sum_from least_fraction (span least_fraction most_fraction)
    (λ f.
    sum_from least_ratio (span least_ratio (largest_return_ratio tank))
    (λ r. sum_from least_time (span least_time most_time) (λ h. g (record { fraction = f; return_ratio = r; thickening = h }))))

-- how many candidates the grid of a flow has
unfoldable pub grid_size : TankFlow → ℕ
grid_size TankFlow.Horizontal = 83_076
grid_size TankFlow.Vertical = 128_226

-- 1 where two numbers are the same, else 0
abbrev pub one : ℕ → ℕ → ℕ
one n k = cond (eqb n k) 1 0

-- how many candidates of the grid are answered with the number k
unfoldable pub counted : Plant → Concentrations → ℕ → ℕ
counted p x k = sum_over_grid p.tank (λ y. one (answer_number (judge p x y)) k)

-- how many numbers a census has counts for: every answer's number is below it
abbrev pub answer_numbers : ℕ
answer_numbers = 32

-- the census, once plant data and readings have their answer: the counts, or the refusal
unfoldable pub census_accepted : Plant → Acceptance → Result (List ℕ) Refusal
census_accepted p (Err n) = Err n
census_accepted p (Ok x) = Ok (values_from 0 answer_numbers (counted p x))

-- the census of any plant data and readings
unfoldable pub census : Plant → Readings → Result (List ℕ) Refusal
census p r = census_accepted p (accept p r)

-- its counts: zeros where it is refused
unfoldable pub census_counts : Result (List ℕ) Refusal → List ℕ
census_counts (Ok counts) = counts
census_counts (Err n) = values_from 0 answer_numbers (λ k. 0)

-- What the call promises of the number and the counts: 0 and the counts for accepted data ..
pub record Counts (p : Plant) (r : Readings) (number : ℕ) (counts : List ℕ) : Type 0 where
  pub numbered : number ≡ 0
  pub kept : T (all_kept (data_rules p r))
  pub values : counts ≡ values_from 0 answer_numbers (counted p (values_of p r))

-- .. or the refusal of the first of the data's rules that is broken, and zeros
abbrev pub CensusOutcome : Plant → Readings → ℕ → List ℕ → Type 0
CensusOutcome p r number counts = Counts p r number counts ⊎ Refuses (FirstBroken (data_rules p r)) number counts
