-- The steps that know no way: everything by BOD, as it was before document 02, item 12. Nothing here looks at the way. That the way by
-- BOD changes nothing is said against these (proofs/ByBod.antt), and what the way by COD asks of the data. Assumes nothing.
use Rattle.std.specs.Prelude.{ℕ, ◌*◌, ◌≡◌, Bool, not, cond, List, [], ◌∷◌, ◌++◌, leb, Err}
use Rattle.rules.specs.Limits.{least_fraction}
use Rattle.rules.specs.Rules.{Rule, rule, verdict}
use Rattle.rules.specs.PlantData.{plant_in_range}
use Rattle.rules.specs.LabReadings.{cod_ratio_broken}
use Rattle.rules.specs.Consent.{terms_of, every}
use Rattle.rules.specs.Accepting.{values_of, readings_rules_with, bulking_rule, terms_rule, accept_by, accept}
use Rattle.rules.specs.AgeNitrate.{corrected_age, capacity, covered}
use Rattle.rules.specs.ReactorSteps.{carbon_sludge, reactor_by, reactor_of}
use Rattle.rules.specs.SettlingSteps.{settling_of}
use Rattle.rules.specs.AerationSteps.{aeration_uptake, carbon_oxygen, denitrified_by_bod, transfer_of, aeration_by}
use Rattle.rules.specs.TermSteps.{nitrifies, term_fraction, term_removes, term_denitrified}
use Rattle.rules.specs.Examining.{sheet_from, tank_rules, grid_rule, answer_by, judge}
use Rattle.rules.specs.OtherSteps.{altered_plant, Calculation, SameAnswers}
use Rattle.rules.specs.declared.Plant.{Plant}
use Rattle.rules.specs.declared.Process.{Process}
use Rattle.rules.specs.declared.Way.{Way}
use Rattle.rules.specs.declared.Readings.{Readings}
use Rattle.rules.specs.declared.Concentrations.{Concentrations}
use Rattle.rules.specs.declared.Candidate.{Candidate}
use Rattle.rules.specs.declared.Reactor.{Reactor}
use Rattle.rules.specs.declared.Aeration.{Aeration}
use Rattle.rules.specs.declared.Term.{Term}
use Rattle.rules.specs.declared.Sheet.{Sheet}
use Rattle.rules.specs.declared.Refusal.{Refusal}

-- a plant in another way
unfoldable pub with_way : Way → Plant → Plant
with_way way p = altered_plant p.flow p.wet_weather_flow p.nitrate_target p.site_surface p.site_depth p.sludge_volume_index p.dose p.consent way p

-- 4 is asked of every plant
unfoldable pub data_rules_without_way : Plant → Readings → List Rule
data_rules_without_way p r =
    let ratio = rule Refusal.CodRatio (not (cod_ratio_broken (values_of p r).bod (values_of p r).cod)) in
    rule Refusal.PlantData (plant_in_range p) ∷ bulking_rule p ∷ (readings_rules_with (ratio ∷ []) p r ++ (terms_rule p ∷ []))

-- 4 is asked of none: 1; then 17; then 2 and 3 of each reading in turn; then 14
unfoldable pub data_rules_without_ratio : Plant → Readings → List Rule
data_rules_without_ratio p r = rule Refusal.PlantData (plant_in_range p) ∷ bulking_rule p ∷ (readings_rules_with [] p r ++ (terms_rule p ∷ []))

-- K × C and the carbon sludge from BOD
unfoldable pub reactor_without_way : Plant → Concentrations → ℕ → Reactor
reactor_without_way p x fraction =
    reactor_by (λ (u : ℕ). capacity p.process fraction p.design_temperature u * x.bod) (carbon_sludge p.flow x.bod x.solids) p.dose
    p
    x
    fraction

-- K at a fraction and a temperature: 0 at a fraction under 200
unfoldable pub capacity_from200 : Process → ℕ → ℕ → ℕ → ℕ
capacity_from200 process fraction temperature corrected = cond (leb least_fraction fraction) (capacity process fraction temperature corrected) 0

-- K × C in a term
unfoldable pub term_removes_without_way : Plant → Concentrations → Reactor → Term → ℕ
term_removes_without_way p x reactor term =
    capacity_from200 p.process (term_fraction p reactor term) term.temperature (corrected_age reactor.age term.temperature) * x.bod

unfoldable pub term_covered_without_way : Plant → Concentrations → Reactor → Term → Bool
term_covered_without_way p x reactor term =
    covered (term_removes_without_way p x reactor term) reactor.removed_by_dose (term_denitrified reactor term)

unfoldable pub rules_without_way : Plant → Concentrations → Candidate → List Rule
rules_without_way p x y =
    let reactor = reactor_without_way p x y.fraction in
    grid_rule p y
    ∷ rule Refusal.Nitrate (covered reactor.removes reactor.removed_by_dose reactor.denitrified)
    ∷ rule Refusal.Nitrification (every (nitrifies p reactor) (terms_of p.consent))
    ∷ rule Refusal.TermNitrate (every (term_covered_without_way p x reactor) (terms_of p.consent))
    ∷ tank_rules p (settling_of p y.return_ratio y.thickening)

-- carbon's oxygen from BOD
unfoldable pub aeration_without_way : Plant → Concentrations → Reactor → Aeration
aeration_without_way p x reactor =
    aeration_by (λ (u : ℕ). carbon_oxygen p.flow x.bod (aeration_uptake u))
    (transfer_of p.process p.oxygen_saturation reactor.fraction)
    (denitrified_by_bod reactor.denitrified reactor.removed_by_dose)
    p
    reactor

unfoldable pub sheet_without_way : Plant → Concentrations → Candidate → Sheet
sheet_without_way p x y =
    let reactor = reactor_without_way p x y.fraction in
    sheet_from p y reactor (settling_of p y.return_ratio y.thickening) (aeration_without_way p x reactor)

unfoldable pub steps_without_way : Calculation
steps_without_way = record { for_data = data_rules_without_way; for_candidate = rules_without_way; sheet = sheet_without_way }

-- For this plant the way changes nothing: no acceptance, permission, sheet, refusal or choice; nothing that a census counts; and
-- nothing of a reactor, here or in a term, that an explanation shows.
pub record SameByBod (p : Plant) : Type 0 where
  pub answers : SameAnswers steps_without_way p
  pub counted : (x : Concentrations) (y : Candidate) → judge p x y ≡ answer_by (verdict (rules_without_way p x y)) (sheet_without_way p x y)
  pub reactor : (x : Concentrations) (fraction : ℕ) → reactor_of p x fraction ≡ reactor_without_way p x fraction
  pub term : (x : Concentrations) (reactor : Reactor) (term : Term) → term_removes p x reactor term ≡ term_removes_without_way p x reactor term

-- For this plant 4 is never due: data are accepted by the other rules alone, whatever the readings.
pub record RatioNotAsked (p : Plant) : Type 0 where
  pub acceptance : (r : Readings) → accept p r ≡ accept_by (verdict (data_rules_without_ratio p r)) (values_of p r)
  pub not_due : (r : Readings) → accept p r ≡ Err Refusal.CodRatio → ⊥
