-- The steps that know no dose, in either way: the ones that the dose changed, and all that rests on them. Nothing here looks at the dose
-- (proofs/StepsWithoutDose.antt); that a dose of 0 changes nothing is said against these (proofs/NoDose.antt). Assumes nothing.
use Rattle.std.specs.Prelude.{ℕ, ◌*◌, Bool, List, ◌∷◌, leb}
use Rattle.rules.specs.Rules.{Rule, rule}
use Rattle.rules.specs.PlantData.{all_within, figures_without_dose}
use Rattle.rules.specs.Consent.{terms_of, every}
use Rattle.rules.specs.Accepting.{rules_after_figures}
use Rattle.rules.specs.ReactorSteps.{reactor_dosed}
use Rattle.rules.specs.SettlingSteps.{settling_of}
use Rattle.rules.specs.AerationSteps.{aeration_saving}
use Rattle.rules.specs.TermSteps.{nitrifies, term_removes, term_denitrified}
use Rattle.rules.specs.Examining.{sheet_from, tank_rules, grid_rule}
use Rattle.rules.specs.OtherSteps.{altered_plant, Calculation}
use Rattle.rules.specs.declared.Plant.{Plant}
use Rattle.rules.specs.declared.Readings.{Readings}
use Rattle.rules.specs.declared.Concentrations.{Concentrations}
use Rattle.rules.specs.declared.Candidate.{Candidate}
use Rattle.rules.specs.declared.Reactor.{Reactor}
use Rattle.rules.specs.declared.Term.{Term}
use Rattle.rules.specs.declared.Sheet.{Sheet}
use Rattle.rules.specs.declared.Refusal.{Refusal}

-- a plant with another dose
unfoldable pub with_dose : ℕ → Plant → Plant
with_dose dose p = altered_plant p.flow p.wet_weather_flow p.nitrate_target p.site_surface p.site_depth p.sludge_volume_index dose p.consent p.way p

-- 1 asks of document 01's figures alone; then the other rules
unfoldable pub data_rules_without_dose : Plant → Readings → List Rule
data_rules_without_dose p r = rule Refusal.PlantData (all_within (figures_without_dose p)) ∷ rules_after_figures p r

-- document 01's "covered", from K × C or what stands for it and D: K × C ≥ 1000 × D
unfoldable pub covered_by_bod : ℕ → ℕ → Bool
covered_by_bod own d = leb (1000 * d) own

-- the same in a term of the consent
unfoldable pub term_covered_by_bod : Plant → Concentrations → Reactor → Term → Bool
term_covered_by_bod p x reactor term = covered_by_bod (term_removes p x reactor term) (term_denitrified reactor term)

-- the candidate's rules with that cover
unfoldable pub rules_without_dose : Plant → Concentrations → Candidate → List Rule
rules_without_dose p x y =
    let reactor = reactor_dosed 0 p x y.fraction in
    grid_rule p y
    ∷ rule Refusal.Nitrate (covered_by_bod reactor.removes reactor.denitrified)
    ∷ rule Refusal.Nitrification (every (nitrifies p reactor) (terms_of p.consent))
    ∷ rule Refusal.TermNitrate (every (term_covered_by_bod p x reactor) (terms_of p.consent))
    ∷ tank_rules p (settling_of p y.return_ratio y.thickening)

-- the sheet, with no sludge from a dose and with oxygen saved on the whole of D
unfoldable pub sheet_without_dose : Plant → Concentrations → Candidate → Sheet
sheet_without_dose p x y =
    let reactor = reactor_dosed 0 p x y.fraction in
    sheet_from p y reactor (settling_of p y.return_ratio y.thickening) (aeration_saving reactor.denitrified p x reactor)

unfoldable pub steps_without_dose : Calculation
steps_without_dose = record { for_data = data_rules_without_dose; for_candidate = rules_without_dose; sheet = sheet_without_dose }
