-- Wrong censuses, each refuted: its counts do not keep the promise. Assumes nothing.
use mathlib.Core.Path.{◌≡◌, refl, ap, ◌∙◌}
use mathlib.Core.Logic.{inl, inr}
use mathlib.Core.List.{List}
use Prim.Native.Nat.{ℕ, ◌+◌, ◌*◌, ◌<◌}
use native.Mathlib.Omega.{arith}
use lib.Dec.{T}
use Rattle.rules.specs.Sums.{sum_from}
use Rattle.rules.specs.Rules.{all_kept}
use Rattle.rules.specs.Accepting.{values_of, data_rules}
use Rattle.rules.specs.Census.{grid_size, counted, answer_numbers, CensusOutcome}
use Rattle.rules.specs.Cases.{case_a, hopper_plant, concentrations_a, f32, readings_with, readings_a}
use Rattle.rules.specs.declared.Plant.{Plant}
use Rattle.rules.specs.declared.TankFlow.{TankFlow}
use Rattle.rules.specs.declared.Readings.{Readings}
use Rattle.rules.specs.declared.Concentrations.{Concentrations}
use Rattle.rules.proofs.Computing.{steps}
use Rattle.rules.proofs.SumLaws.{sum_same, values_at}
use Rattle.rules.proofs.RuleOrder.{refusal_number_between}
use Rattle.rules.proofs.CensusLaws.{all_counted}
use Rattle.census.specs.Tallies.{at}
use Rattle.census.proofs.WorkedCensus.{case_a_lem, vertical}

-- a census numbered 0 is of accepted data and has their counts
accepted :
    (p : Plant) (r : Readings) (l : List ℕ)
    → CensusOutcome p r 0 l
    → T (all_kept (data_rules p r)) × ((k : ℕ) → k < answer_numbers → at l k ≡ counted p (values_of p r) k)
accepted p r l (inl c) = (
  c.kept,
  λ k b.
      let here : 0 + k ≡ k = omega arith in
      ap (λ (m : List ℕ). at m k) c.values ∙ (values_at 0 0 answer_numbers (counted p (values_of p r)) k b ∙ ap (counted p (values_of p r)) here),
)
accepted p r l (inr c) = let b = refusal_number_between c.refusal in absurd (omega (arith, c.numbered))

-- the readings of Case A have its concentrations, with either plant
values_a : values_of case_a readings_a ≡ concentrations_a
unfolding steps
values_a = refl

values_v : values_of hopper_plant readings_a ≡ concentrations_a
unfolding steps
values_v = refl

held_a : (l : List ℕ) (k : ℕ) → k < answer_numbers → CensusOutcome case_a readings_a 0 l → at l k ≡ counted case_a concentrations_a k
held_a l k b c = (accepted case_a readings_a l c).1 k b ∙ ap (λ (x : Concentrations). counted case_a x k) values_a

held_v : (l : List ℕ) (k : ℕ) → k < answer_numbers → CensusOutcome hopper_plant readings_a 0 l → at l k ≡ counted hopper_plant concentrations_a k
held_v l k b c = (accepted hopper_plant readings_a l c).1 k b ∙ ap (λ (x : Concentrations). counted hopper_plant x k) values_v

-- The last fraction left out: Case A would have 200 covered fractions, each with 276 tanks.
pub last_fraction_left_out : (l : List ℕ) → at l 0 ≡ 200 * 276 → CensusOutcome case_a readings_a 0 l → ⊥
last_fraction_left_out l e c = omega (arith, held_a l 0 (omega arith) c, case_a_lem.permitted)

-- A rule counted where an earlier one is broken already: the 94 tanks that break rule 8 with all 301 fractions.
pub earlier_rule_ignored : (l : List ℕ) → at l 8 ≡ 301 * 94 → CensusOutcome hopper_plant readings_a 0 l → ⊥
earlier_rule_ignored l e c = omega (arith, held_v l 8 (omega arith) c, vertical.solids)

-- The tank's rules before the fraction's: rule 7 first only with the 115 tanks that keep their rules.
pub tank_before_fraction : (l : List ℕ) → at l 7 ≡ 100 * 115 → CensusOutcome hopper_plant readings_a 0 l → ⊥
tank_before_fraction l e c = omega (arith, held_v l 7 (omega arith) c, vertical.nitrate)

-- Vertical flow counted with 46 return ratios: for any data the counts would add up to the grid of horizontal flow.
pub vertical_with_46_ratios :
    (p : Plant) (r : Readings) (l : List ℕ)
    → p.tank ≡ TankFlow.Vertical
    → sum_from 0 answer_numbers (at l) ≡ grid_size TankFlow.Horizontal
    → CensusOutcome p r 0 l
    → ⊥
unfolding grid_size
vertical_with_46_ratios p r l flow e c =
    let same : sum_from 0 answer_numbers (at l) ≡ sum_from 0 answer_numbers (counted p (values_of p r)) =
    sum_same 0 answer_numbers (at l) (counted p (values_of p r)) (λ k a b. (accepted p r l c).1 k (omega arith)) in
    let all = all_counted p (values_of p r) in
    let size : grid_size p.tank ≡ 128_226 = ap grid_size flow in
    omega arith

-- A census of data that are refused: a COD reading above 2.2 times the BOD.
refused_data : T (all_kept (data_rules case_a (readings_with (f32 4_401 10)))) → ⊥
unfolding steps
refused_data t = t

pub refused_data_counted : (l : List ℕ) → CensusOutcome case_a (readings_with (f32 4_401 10)) 0 l → ⊥
refused_data_counted l c = refused_data (accepted case_a (readings_with (f32 4_401 10)) l c).0
