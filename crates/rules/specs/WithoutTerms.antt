-- The steps that know no terms of the consent: nothing here looks at the consent. That a consent without terms changes nothing
-- is said against these (proofs/NoTerms.antt). Assumes nothing.
use Rattle.std.specs.Prelude.{List, ◌∷◌}
use Rattle.rules.specs.Rules.{Rule, rule}
use Rattle.rules.specs.PlantData.{plant_in_range}
use Rattle.rules.specs.Accepting.{bulking_rule, readings_rules}
use Rattle.rules.specs.AgeNitrate.{covered}
use Rattle.rules.specs.ReactorSteps.{reactor_of}
use Rattle.rules.specs.SettlingSteps.{settling_of}
use Rattle.rules.specs.Examining.{sheet_of, tank_rules, grid_rule}
use Rattle.rules.specs.OtherSteps.{altered_plant, Calculation}
use Rattle.rules.specs.declared.Plant.{Plant}
use Rattle.rules.specs.declared.Consent.{Consent}
use Rattle.rules.specs.declared.Readings.{Readings}
use Rattle.rules.specs.declared.Concentrations.{Concentrations}
use Rattle.rules.specs.declared.Candidate.{Candidate}
use Rattle.rules.specs.declared.Refusal.{Refusal}

-- a plant with another consent
unfoldable pub with_consent : Consent → Plant → Plant
with_consent consent p = altered_plant p.flow p.wet_weather_flow p.nitrate_target p.site_surface p.site_depth p.sludge_volume_index p.dose consent p.way p

-- 1; then 17; then 2 and 3 of each reading in turn; then 4
unfoldable pub data_rules_without_terms : Plant → Readings → List Rule
data_rules_without_terms p r = rule Refusal.PlantData (plant_in_range p) ∷ bulking_rule p ∷ readings_rules p r

-- 6 to 10
unfoldable pub rules_without_terms : Plant → Concentrations → Candidate → List Rule
rules_without_terms p x y =
    let reactor = reactor_of p x y.fraction in
    grid_rule p y
    ∷ rule Refusal.Nitrate (covered reactor.removes reactor.removed_by_dose reactor.denitrified)
    ∷ tank_rules p (settling_of p y.return_ratio y.thickening)

unfoldable pub steps_without_terms : Calculation
steps_without_terms = record { for_data = data_rules_without_terms; for_candidate = rules_without_terms; sheet = sheet_of }
