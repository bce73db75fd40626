-- The way by BOD changes no acceptance, no sheet, no refusal and no choice, against the steps that know no way. Assumes nothing.
use mathlib.Core.Path.{◌≡◌, refl, ap, ap₂, ◌∙◌}
use mathlib.Core.Bool.{Bool, true, false, cond, not, ◌&&◌}
use mathlib.Core.List.{List, [], ◌∷◌, ◌++◌}
use Prim.Native.Nat.{ℕ, ◌*◌}
use native.Mathlib.Omega.{arith}
use lib.Dec.{leb}
use Rattle.rules.specs.Limits.{least_fraction}
use Rattle.rules.specs.Rules.{rule, verdict}
use Rattle.rules.specs.PlantData.{plant_in_range}
use Rattle.rules.specs.LabReadings.{ratio_refused}
use Rattle.rules.specs.Consent.{terms_of, every}
use Rattle.rules.specs.Accepting.{values_of, readings_rules_with, bulking_rule, terms_rule, data_rules}
use Rattle.rules.specs.AgeNitrate.{corrected_age, capacity, removes_by_bod, removes, covered}
use Rattle.rules.specs.ReactorSteps.{carbon_sludge_in, reactor_by, reactor_dosed, reactor_of}
use Rattle.rules.specs.SettlingSteps.{settling_of}
use Rattle.rules.specs.AerationSteps.{carbon_oxygen_in, denitrified_by_bod, transfer_of, aeration_by, aeration_saving, aeration_of}
use Rattle.rules.specs.TermSteps.{nitrifies, term_fraction, removes_from200, term_removes, term_denitrified, term_covered}
use Rattle.rules.specs.Examining.{sheet_from, sheet_of, fraction_rules, tank_rules, grid_rule, candidate_rules, answer_by, judge}
use Rattle.rules.specs.WithoutWay.{data_rules_without_way, reactor_without_way, capacity_from200, term_removes_without_way, term_covered_without_way, rules_without_way, aeration_without_way, sheet_without_way, steps_without_way, SameByBod}
use Rattle.rules.specs.declared.Plant.{Plant}
use Rattle.rules.specs.declared.Way.{Way}
use Rattle.rules.specs.declared.Readings.{Readings}
use Rattle.rules.specs.declared.Concentrations.{Concentrations}
use Rattle.rules.specs.declared.Candidate.{Candidate}
use Rattle.rules.specs.declared.Reactor.{Reactor}
use Rattle.rules.specs.declared.Term.{Term}
use Rattle.rules.specs.Results.{Verdict}
use Rattle.rules.specs.declared.Refusal.{Refusal}
use Rattle.rules.proofs.OtherAnswers.{same_answers}

module _ (p : Plant) (bod : p.way ≡ Way.Bod) where
  data_rules_lem : (r : Readings) → data_rules p r ≡ data_rules_without_way p r
  unfolding data_rules data_rules_without_way ratio_refused
  data_rules_lem r =
      ap
      (λ (way : Way).
      rule Refusal.PlantData (plant_in_range p)
      ∷ bulking_rule p
      ∷ (readings_rules_with (rule Refusal.CodRatio (not (ratio_refused way (values_of p r).bod (values_of p r).cod)) ∷ []) p r ++ (terms_rule p ∷ [])))
      bod

  reactor_by_bod : (x : Concentrations) (fraction : ℕ) → reactor_of p x fraction ≡ reactor_without_way p x fraction
  unfolding reactor_of reactor_dosed reactor_without_way removes removes_by_bod carbon_sludge_in
  reactor_by_bod x fraction =
      ap (λ (way : Way). reactor_by (removes way p.process x fraction p.design_temperature) (carbon_sludge_in way p.flow x p.dose) p.dose p x fraction)
      bod

  -- K × C under a fraction of 200 is 0 either way that it is written
  from_200 : (b : Bool) (k c : ℕ) → cond b (k * c) 0 ≡ cond b k 0 * c
  from_200 true k c = refl
  from_200 false k c = omega arith

  term_by_bod : (x : Concentrations) (reactor : Reactor) (term : Term) → term_removes p x reactor term ≡ term_removes_without_way p x reactor term
  unfolding term_removes term_removes_without_way removes_from200 capacity_from200 removes removes_by_bod
  term_by_bod x reactor term =
      let f = term_fraction p reactor term in
      let u = corrected_age reactor.age term.temperature in
      ap (λ (way : Way). cond (leb least_fraction f) (removes way p.process x f term.temperature u) 0) bod
      ∙ from_200 (leb least_fraction f) (capacity p.process f term.temperature u) x.bod

  covered_by_bod_lem : (x : Concentrations) (reactor : Reactor) (l : List Term) → every (term_covered p x reactor) l ≡ every (term_covered_without_way p x reactor) l
  unfolding term_covered term_covered_without_way
  covered_by_bod_lem x reactor [] = refl
  covered_by_bod_lem x reactor (term ∷ later) =
      ap₂ ◌&&◌ (ap (λ (own : ℕ). covered own reactor.removed_by_dose (term_denitrified reactor term)) (term_by_bod x reactor term))
      (covered_by_bod_lem x reactor later)

  candidate_rules_lem : (x : Concentrations) (y : Candidate) → candidate_rules p x y ≡ rules_without_way p x y
  unfolding candidate_rules rules_without_way
  candidate_rules_lem x y =
      let reactor = reactor_without_way p x y.fraction in
      let tank = tank_rules p (settling_of p y.return_ratio y.thickening) in
      ap (λ (own : Reactor). grid_rule p y ∷ (fraction_rules p x own ++ tank)) (reactor_by_bod x y.fraction)
      ∙ ap
      (λ (b : Bool).
      grid_rule p y
      ∷ rule Refusal.Nitrate (covered reactor.removes reactor.removed_by_dose reactor.denitrified)
      ∷ rule Refusal.Nitrification (every (nitrifies p reactor) (terms_of p.consent))
      ∷ rule Refusal.TermNitrate b
      ∷ tank)
      (covered_by_bod_lem x reactor (terms_of p.consent))

  same_sheet : (x : Concentrations) (y : Candidate) → sheet_of p x y ≡ sheet_without_way p x y
  unfolding sheet_of sheet_without_way aeration_of aeration_saving aeration_without_way carbon_oxygen_in
  same_sheet x y =
      let reactor = reactor_without_way p x y.fraction in
      let tank = settling_of p y.return_ratio y.thickening in
      ap (λ (own : Reactor). sheet_from p y own tank (aeration_of p x own)) (reactor_by_bod x y.fraction)
      ∙ ap
      (λ (way : Way).
      sheet_from p y reactor tank
      (aeration_by (carbon_oxygen_in way p.flow x) (transfer_of p.process p.oxygen_saturation reactor.fraction)
      (denitrified_by_bod reactor.denitrified reactor.removed_by_dose)
      p
      reactor))
      bod

-- For all data of a plant in the way by BOD: every answer is what it was.
pub unchanged_by_bod : (p : Plant) → p.way ≡ Way.Bod → SameByBod p
unfolding steps_without_way judge
unchanged_by_bod p bod =
    record {
      answers =
          same_answers steps_without_way p (λ r. ap verdict (data_rules_lem p bod r)) (λ x y. ap verdict (candidate_rules_lem p bod x y)) (same_sheet p bod);
      counted = λ x y.
          ap (λ (v : Verdict). answer_by v (sheet_of p x y)) (ap verdict (candidate_rules_lem p bod x y))
          ∙ ap (answer_by (verdict (rules_without_way p x y))) (same_sheet p bod x y);
      reactor = reactor_by_bod p bod;
      term = term_by_bod p bod;
    }
