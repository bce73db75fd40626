-- Tallies of verdicts by their numbers, for the contracts of the inner functions: fractions and settling tanks counted
-- apart. proofs/Products.antt proves that the census is made of their products. Assumes nothing.
use Rattle.std.specs.Prelude.{ℕ, ◌+◌, ◌*◌, ◌≤◌, ◌<◌, ◌≡◌, cond, List, eqb, length, get_or}
use Rattle.rules.specs.Limits.{least_fraction, most_fraction, least_ratio, most_ratio, least_time, most_time}
use Rattle.rules.specs.Sums.{span, sum_from}
use Rattle.rules.specs.Rules.{verdict}
use Rattle.rules.specs.ReactorSteps.{reactor_of}
use Rattle.rules.specs.SettlingSteps.{settling_of}
use Rattle.rules.specs.Examining.{fraction_rules, tank_rules}
use Rattle.rules.specs.Answers.{answer_number}
use Rattle.rules.specs.Census.{one, answer_numbers}
use Rattle.rules.specs.declared.Plant.{Plant}
use Rattle.rules.specs.declared.Concentrations.{Concentrations}

-- how many fractions the grid has, and how many settling tanks at most
abbrev pub fractions : ℕ
fractions = span least_fraction most_fraction

abbrev pub most_tanks : ℕ
most_tanks = span least_ratio most_ratio * span least_time most_time

-- the number of a fraction's verdict, and of a settling tank's
unfoldable pub fraction_number : Plant → Concentrations → ℕ → ℕ
fraction_number p x f = answer_number (verdict (fraction_rules p x (reactor_of p x f)))

unfoldable pub tank_number : Plant → ℕ → ℕ → ℕ
tank_number p r h = answer_number (verdict (tank_rules p (settling_of p r h)))

-- of the first n fractions of the grid, those numbered k
abbrev pub fraction_count : Plant → Concentrations → ℕ → ℕ → ℕ
fraction_count p x n k = sum_from least_fraction n (λ f. one (fraction_number p x f) k)

-- of the settling tanks with a thickening time and the first n return ratios, those numbered k
abbrev pub ratio_count : Plant → ℕ → ℕ → ℕ → ℕ
ratio_count p h n k = sum_from least_ratio n (λ r. one (tank_number p r h) k)

-- of those with the first m thickening times and the first n return ratios
abbrev pub tank_count : Plant → ℕ → ℕ → ℕ → ℕ
tank_count p n m k = sum_from least_time m (λ h. ratio_count p h n k)

-- what a tally holds at a number
abbrev pub at : List ℕ → ℕ → ℕ
at tally k = get_or tally k 0

-- a tally holds a count at each number
pub record Tally (count : ℕ → ℕ) (tally : List ℕ) : Type 0 where
  pub size : length tally ≡ answer_numbers
  pub holds : (k : ℕ) → k < answer_numbers → at tally k ≡ count k

-- no number of a tally is above a limit
pub record AtMost (limit : ℕ) (tally : List ℕ) : Type 0 where
  pub size : length tally ≡ answer_numbers
  pub most : (k : ℕ) → k < answer_numbers → at tally k ≤ limit

-- How many pairs of a fraction and a settling tank are answered with k, from the two tallies and the number of tanks: the
-- first broken rule is the fraction's, or the tank's where the fraction keeps its own.
unfoldable pub pairs : List ℕ → List ℕ → ℕ → ℕ → ℕ
pairs fraction tank tanks k =
    cond (eqb k 0) (at fraction 0 * at tank 0) (at fraction k * tanks + at fraction 0 * at tank k)
