-- Document 01, examining: the sheet of a candidate, the rules 6 to 10 and document 02's 15 and 16 in their order, "permitted",
-- and what examining answers. Assumes nothing.
use Rattle.std.specs.Prelude.{ℕ, ◌+◌, Bool, List, [], ◌∷◌, ◌++◌, leb, Ok, Err}
use Rattle.rules.specs.Rules.{Rule, rule, all_kept, verdict}
use Rattle.rules.specs.Accepting.{accept, data_rules, values_of}
use Rattle.rules.specs.AgeNitrate.{on_grid, covered}
use Rattle.rules.specs.ReactorSteps.{reactor_of, reactor_solids, reactor_volume}
use Rattle.rules.specs.Consent.{terms_of, every}
use Rattle.rules.specs.TermSteps.{nitrifies, term_covered}
use Rattle.rules.specs.SettlingSteps.{settling_of, solids_kept}
use Rattle.rules.specs.AerationSteps.{aeration_of}
use Rattle.rules.specs.declared.Plant.{Plant}
use Rattle.rules.specs.declared.Readings.{Readings}
use Rattle.rules.specs.declared.Concentrations.{Concentrations}
use Rattle.rules.specs.declared.Candidate.{Candidate}
use Rattle.rules.specs.declared.Reactor.{Reactor}
use Rattle.rules.specs.declared.Settling.{Settling}
use Rattle.rules.specs.declared.Aeration.{Aeration}
use Rattle.rules.specs.declared.Sheet.{Sheet}
use Rattle.rules.specs.declared.Refusal.{Refusal}
use Rattle.rules.specs.Results.{Verdict}
use Rattle.rules.specs.Results.{Acceptance}
use Rattle.rules.specs.Results.{Answer}

-- total, m3: reactor and settling volume
unfoldable pub total_of : Plant → Reactor → Settling → ℕ
total_of p reactor settling = reactor_volume reactor.mass (reactor_solids p.process settling.solids) + settling.volume

-- the sheet that a candidate's stages make, in the listing's order
unfoldable pub sheet_from : Plant → Candidate → Reactor → Settling → Aeration → Sheet
sheet_from p y reactor settling aeration =
    record {
      fraction = y.fraction;
      return_ratio = y.return_ratio;
      thickening = y.thickening;
      age = reactor.age;
      sludge = reactor.sludge;
      mass = reactor.mass;
      solids = settling.solids;
      reactor = reactor_volume reactor.mass (reactor_solids p.process settling.solids);
      surface = settling.surface;
      depth = settling.depth;
      settling = settling.volume;
      total = total_of p reactor settling;
      recirculation = aeration.recirculation;
      oxygen = aeration.oxygen;
      transfer = aeration.transfer;
    }

-- the sheet that the steps define for a candidate
unfoldable pub sheet_of : Plant → Concentrations → Candidate → Sheet
sheet_of p x y =
    let reactor = reactor_of p x y.fraction in
    sheet_from p y reactor (settling_of p y.return_ratio y.thickening) (aeration_of p x reactor)

-- 7, 15 and 16, of the fraction alone: the nitrate is covered; nitrification is kept in every term of the consent; the nitrate
-- is covered in every term
abbrev pub fraction_rules : Plant → Concentrations → Reactor → List Rule
fraction_rules p x reactor =
    rule Refusal.Nitrate (covered reactor.removes reactor.removed_by_dose reactor.denitrified)
    ∷ rule Refusal.Nitrification (every (nitrifies p reactor) (terms_of p.consent))
    ∷ rule Refusal.TermNitrate (every (term_covered p x reactor) (terms_of p.consent))
    ∷ []

-- 8 to 10, of the settling tank alone: E ≥ 1,000 and V ≤ 600; the surface, then the depth, at most the site's
abbrev pub tank_rules : Plant → Settling → List Rule
tank_rules p settling =
    rule Refusal.Solids (solids_kept settling.solids settling.sludge_volume)
    ∷ rule Refusal.Surface (leb settling.surface p.site_surface)
    ∷ rule Refusal.Depth (leb settling.depth p.site_depth)
    ∷ []

-- 6: the candidate is on the grid
abbrev pub grid_rule : Plant → Candidate → Rule
grid_rule p y = rule Refusal.OffGrid (on_grid p.tank y)

-- the rules for a candidate of accepted data: 6, 7, 15, 16, 8 to 10
unfoldable pub candidate_rules : Plant → Concentrations → Candidate → List Rule
candidate_rules p x y =
    grid_rule p y
    ∷ (fraction_rules p x (reactor_of p x y.fraction) ++ tank_rules p (settling_of p y.return_ratio y.thickening))

-- "permitted": the candidate keeps the grid, the cover, here and in every term of the consent, E, V and both site limits
unfoldable pub permitted : Plant → Concentrations → Candidate → Bool
permitted p x y = all_kept (candidate_rules p x y)

-- what a verdict on the rules makes of a sheet
unfoldable pub answer_by : Verdict → Sheet → Answer
answer_by (Ok u) s = Ok s
answer_by (Err n) s = Err n

-- a candidate of accepted data: the refusal of the first of these rules that it breaks, else its sheet
unfoldable pub judge : Plant → Concentrations → Candidate → Answer
judge p x y = answer_by (verdict (candidate_rules p x y)) (sheet_of p x y)

-- what examining goes on to, once plant data and readings have their answer
unfoldable pub judge_accepted : Plant → Candidate → Acceptance → Answer
judge_accepted p y (Err n) = Err n
judge_accepted p y (Ok x) = judge p x y

-- what examining answers
unfoldable pub examine : Plant → Readings → Candidate → Answer
examine p r y = judge_accepted p y (accept p r)

-- all the rules that examining goes through: those of the data, then those of the candidate
unfoldable pub examination_rules : Plant → Readings → Candidate → List Rule
examination_rules p r y = data_rules p r ++ candidate_rules p (values_of p r) y
