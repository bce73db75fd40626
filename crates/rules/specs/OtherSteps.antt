-- Examining and demand 3 over other steps than the ones that hold now, so that what a request left as it was can be said against
-- the steps before it. Assumes nothing.
use Rattle.std.specs.Prelude.{ℕ, ◌↔◌, ◌≡◌, Bool, List, ◌++◌, T, Ok, Err}
use Rattle.rules.specs.Rules.{Rule, all_kept, verdict}
use Rattle.rules.specs.Accepting.{values_of, accept_by, accept}
use Rattle.rules.specs.Examining.{sheet_of, permitted, answer_by, examine}
use Rattle.rules.specs.Choosing.{grid, candidate_of, NotBeforeBy, Chosen}
use Rattle.rules.specs.declared.Plant.{Plant}
use Rattle.rules.specs.declared.Consent.{Consent}
use Rattle.rules.specs.declared.Way.{Way}
use Rattle.rules.specs.declared.Readings.{Readings}
use Rattle.rules.specs.declared.Concentrations.{Concentrations}
use Rattle.rules.specs.declared.Candidate.{Candidate}
use Rattle.rules.specs.declared.Sheet.{Sheet}
use Rattle.rules.specs.declared.Refusal.{Refusal}
use Rattle.rules.specs.Results.{Acceptance}
use Rattle.rules.specs.Results.{Answer}

-- a plant with another daily flow, wet weather flow, design nitrate target, site surface and site depth, and another sludge volume
-- index, dose, consent and way
abbrev pub altered_plant : ℕ → ℕ → ℕ → ℕ → ℕ → ℕ → ℕ → Consent → Way → Plant → Plant
altered_plant flow wet target surface depth index dose consent way p =
    record {
      load = p.load;
      flow = flow;
      wet_weather_flow = wet;
      design_temperature = p.design_temperature;
      aeration_temperature = p.aeration_temperature;
      sludge_volume_index = index;
      nitrate_target = target;
      phosphorus_target = p.phosphorus_target;
      carbon_peak = p.carbon_peak;
      nitrogen_peak = p.nitrogen_peak;
      oxygen_saturation = p.oxygen_saturation;
      site_surface = surface;
      site_depth = depth;
      process = p.process;
      precipitant = p.precipitant;
      tank = p.tank;
      removal = p.removal;
      primary_settling = p.primary_settling;
      dose = dose;
      consent = consent;
      way = way;
    }

-- a plant with another sludge volume index
unfoldable pub with_index : ℕ → Plant → Plant
with_index index p = altered_plant p.flow p.wet_weather_flow p.nitrate_target p.site_surface p.site_depth index p.dose p.consent p.way p

-- the rules for the data, the rules for a candidate, and the sheet
pub record Calculation : Type 0 where
  pub for_data : Plant → Readings → List Rule
  pub for_candidate : Plant → Concentrations → Candidate → List Rule
  pub sheet : Plant → Concentrations → Candidate → Sheet

abbrev pub accept_with : Calculation → Plant → Readings → Acceptance
accept_with s p r = accept_by (verdict (s.for_data p r)) (values_of p r)

abbrev pub permitted_with : Calculation → Plant → Concentrations → Candidate → Bool
permitted_with s p x y = all_kept (s.for_candidate p x y)

-- what examining answers: the refusal of the first rule broken, or the sheet
abbrev pub examine_with : Calculation → Plant → Readings → Candidate → Answer
examine_with s p r y = answer_by (verdict (s.for_data p r ++ s.for_candidate p (values_of p r) y)) (s.sheet p (values_of p r) y)

-- a candidate's total on these steps' sheet
abbrev pub total_with : Calculation → Plant → Concentrations → Candidate → ℕ
total_with s p x y = (s.sheet p x y).total

-- demand 3 over these steps
pub record LeastWith (s : Calculation) (p : Plant) (x : Concentrations) (sheet : Sheet) : Type 0 where
  pub member : grid p (candidate_of sheet)
  pub allowed : T (permitted_with s p x (candidate_of sheet))
  pub figures : sheet ≡ s.sheet p x (candidate_of sheet)
  pub rivals : (y : Candidate) → grid p y → T (permitted_with s p x y) → NotBeforeBy (total_with s p x) (candidate_of sheet) y

abbrev pub ChosenAcceptedWith : Calculation → Plant → Answer → Acceptance → Type 0
ChosenAcceptedWith s p a (Err n) = a ≡ Err n
ChosenAcceptedWith s p (Ok sheet) (Ok x) = LeastWith s p x sheet
ChosenAcceptedWith s p (Err n) (Ok x) =
    (n ≡ Refusal.NoDesign) × ((y : Candidate) → grid p y → T (permitted_with s p x y) → ⊥)

abbrev pub ChosenWith : Calculation → Plant → Readings → Answer → Type 0
ChosenWith s p r a = ChosenAcceptedWith s p a (accept_with s p r)

-- For this plant the steps change no acceptance, no candidate's permission, no sheet, no refusal and no choice.
pub record SameAnswers (s : Calculation) (p : Plant) : Type 0 where
  pub acceptance : (r : Readings) → accept p r ≡ accept_with s p r
  pub allowed : (x : Concentrations) (y : Candidate) → permitted p x y ≡ permitted_with s p x y
  pub sheet : (x : Concentrations) (y : Candidate) → sheet_of p x y ≡ s.sheet p x y
  pub answer : (r : Readings) (y : Candidate) → examine p r y ≡ examine_with s p r y
  pub choice : (r : Readings) (a : Answer) → Chosen p r a ↔ ChosenWith s p r a
