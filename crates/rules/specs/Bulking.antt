-- Document 02, item 5, against what was before it: the steps that know no bulking sludge, and what a plant with such a sludge is
-- answered. Assumes nothing.
use Rattle.std.specs.Prelude.{◌↔◌, ◌≡◌, List, [], ◌∷◌, ◌++◌, Err}
use Rattle.rules.specs.Rules.{Rule, rule}
use Rattle.rules.specs.PlantData.{plant_in_range}
use Rattle.rules.specs.Accepting.{readings_rules, terms_rule, accept}
use Rattle.rules.specs.Examining.{candidate_rules, sheet_of, examine}
use Rattle.rules.specs.Choosing.{Chosen}
use Rattle.rules.specs.Explaining.{explain_accepted, explain}
use Rattle.rules.specs.Census.{census_accepted, census}
use Rattle.rules.specs.OtherSteps.{Calculation, accept_with, SameAnswers}
use Rattle.rules.specs.declared.Plant.{Plant}
use Rattle.rules.specs.declared.Readings.{Readings}
use Rattle.rules.specs.declared.Candidate.{Candidate}
use Rattle.rules.specs.declared.Refusal.{Refusal}
use Rattle.rules.specs.Results.{Answer}

-- 1; then 2 and 3 of each reading in turn; then 4; then 14
unfoldable pub data_rules_without_bulking : Plant → Readings → List Rule
data_rules_without_bulking p r = rule Refusal.PlantData (plant_in_range p) ∷ (readings_rules p r ++ (terms_rule p ∷ []))

unfoldable pub steps_without_bulking : Calculation
steps_without_bulking = record { for_data = data_rules_without_bulking; for_candidate = candidate_rules; sheet = sheet_of }

-- For this plant the rule changes nothing: no acceptance, sheet, refusal or choice, no explanation and no census.
pub record SameWithoutBulking (p : Plant) : Type 0 where
  pub answers : SameAnswers steps_without_bulking p
  pub explained : (r : Readings) (y : Candidate) → explain p r y ≡ explain_accepted p y (accept_with steps_without_bulking p r)
  pub counted : (r : Readings) → census p r ≡ census_accepted p (accept_with steps_without_bulking p r)

-- This plant gets 17 from every call, whatever its readings and the candidate.
pub record BulkingRefused (p : Plant) : Type 0 where
  pub acceptance : (r : Readings) → accept p r ≡ Err Refusal.Bulking
  pub examined : (r : Readings) (y : Candidate) → examine p r y ≡ Err Refusal.Bulking
  pub chosen : (r : Readings) (a : Answer) → Chosen p r a ↔ (a ≡ Err Refusal.Bulking)
  pub explained : (r : Readings) (y : Candidate) → explain p r y ≡ Err Refusal.Bulking
  pub counted : (r : Readings) → census p r ≡ Err Refusal.Bulking
