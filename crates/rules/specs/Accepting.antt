-- Document 01's rules 1 to 4 and document 02's 17 and 14 in their order, and "accepted": none of them is broken. Assumes nothing.
use Rattle.std.specs.Prelude.{ℕ, not, List, [], ◌∷◌, ◌++◌, leb, Ok, Err}
use Rattle.rules.specs.Limits.{most_index}
use Rattle.rules.specs.Rules.{Rule, rule, verdict}
use Rattle.rules.specs.PlantData.{plant_in_range}
use Rattle.rules.specs.Consent.{consent_valid}
use Rattle.rules.specs.LabReadings.{reading_no_number, reading_in_range, reading_value, ratio_refused}
use Rattle.rules.specs.declared.Plant.{Plant}
use Rattle.rules.specs.declared.PrimarySettling.{PrimarySettling}
use Rattle.rules.specs.declared.Parameter.{Parameter}
use Rattle.rules.specs.declared.Reading.{Reading}
use Rattle.rules.specs.declared.Readings.{Readings}
use Rattle.rules.specs.declared.Concentrations.{Concentrations}
use Rattle.rules.specs.declared.Refusal.{Refusal}
use Rattle.rules.specs.Results.{Verdict}
use Rattle.rules.specs.Results.{Acceptance}

-- the readings' values, accepted or not
unfoldable pub values_of : Plant → Readings → Concentrations
values_of p r =
    record {
      bod = reading_value p.flow p.primary_settling Parameter.Bod r.bod;
      cod = reading_value p.flow p.primary_settling Parameter.Cod r.cod;
      solids = reading_value p.flow p.primary_settling Parameter.Solids r.solids;
      nitrogen = reading_value p.flow p.primary_settling Parameter.Nitrogen r.nitrogen;
      phosphorus = reading_value p.flow p.primary_settling Parameter.Phosphorus r.phosphorus;
    }

-- 2 and 3 of one reading, at the daily flow Q and the primary settling
abbrev pub reading_rules : ℕ → PrimarySettling → Parameter → Reading → List Rule
reading_rules q s k r =
    rule Refusal.NoNumber (not (reading_no_number r)) ∷ rule Refusal.ReadingRange (reading_in_range q s k r) ∷ []

-- 4: the COD is not too high beside the BOD, in the way by BOD
abbrev pub ratio_rule : Plant → Readings → Rule
ratio_rule p r = rule Refusal.CodRatio (not (ratio_refused p.way (values_of p r).bod (values_of p r).cod))

-- 2 and 3 of each reading in turn; then what is asked of all readings together
abbrev pub readings_rules_with : List Rule → Plant → Readings → List Rule
readings_rules_with together p r =
    reading_rules p.flow p.primary_settling Parameter.Bod r.bod
    ++ (reading_rules p.flow p.primary_settling Parameter.Cod r.cod
    ++ (reading_rules p.flow p.primary_settling Parameter.Solids r.solids
    ++ (reading_rules p.flow p.primary_settling Parameter.Nitrogen r.nitrogen
    ++ (reading_rules p.flow p.primary_settling Parameter.Phosphorus r.phosphorus
    ++ together))))

-- that is 4
abbrev pub readings_rules : Plant → Readings → List Rule
readings_rules p r = readings_rules_with (ratio_rule p r ∷ []) p r

-- 17: no bulking sludge
abbrev pub bulking_rule : Plant → Rule
bulking_rule p = rule Refusal.Bulking (leb p.sludge_volume_index most_index)

-- 14: the terms of the consent are valid
abbrev pub terms_rule : Plant → Rule
terms_rule p = rule Refusal.Terms (consent_valid p.consent)

-- what is asked once the figures are in range: 17; then 2 and 3 of each reading in turn; then 4; then 14
abbrev pub rules_after_figures : Plant → Readings → List Rule
rules_after_figures p r = bulking_rule p ∷ (readings_rules p r ++ (terms_rule p ∷ []))

-- the rules for plant data and readings: 1, and then those
unfoldable pub data_rules : Plant → Readings → List Rule
data_rules p r = rule Refusal.PlantData (plant_in_range p) ∷ rules_after_figures p r

-- what a verdict on the rules makes of the readings' values
unfoldable pub accept_by : Verdict → Concentrations → Acceptance
accept_by (Ok u) x = Ok x
accept_by (Err n) x = Err n

-- document 01's "accepted", with the readings' values, or the first refusal due
unfoldable pub accept : Plant → Readings → Acceptance
accept p r = accept_by (verdict (data_rules p r)) (values_of p r)
