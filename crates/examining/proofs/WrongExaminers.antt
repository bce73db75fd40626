-- The wrong examiners that document 01 names, each on data where it answers otherwise than the definition. The theorem
-- `refuted` in proofs/Refuted.antt proves the record. Assumes nothing.
use Prim.Native.Nat.{ℕ, ◌+◌, ◌-◌, ◌*◌, max}
use mathlib.Core.Path.{◌≡◌}
use mathlib.Core.Bool.{cond}
use mathlib.Core.List.{[], ◌∷◌}
use lib.Dec.{leb}
use Rattle.std.specs.Prelude.{Ok, Err}
use Rattle.rules.specs.Rounding.{down, up}
use Rattle.rules.specs.AgeNitrate.{capacity_uptake, corrected_age, covered}
use Rattle.rules.specs.ReactorSteps.{reactor_of, reactor_volume}
use Rattle.rules.specs.AerationSteps.{aeration_uptake, carbon_oxygen, saved_oxygen, nitrification_oxygen, hourly_oxygen}
use Rattle.rules.specs.Examining.{examine}
use Rattle.rules.specs.Rules.{rule, verdict}
use Rattle.rules.specs.SettlingSteps.{settling_of, solids_kept}
use Rattle.rules.specs.Answers.{answer_number, answer_sheet}
use Rattle.rules.specs.Cases.{variant, case_a, readings_a, concentrations_a, candidate}
use Rattle.rules.specs.declared.Plant.{Plant}
use Rattle.rules.specs.declared.Process.{Process}
use Rattle.rules.specs.declared.Steps.{Steps}
use Rattle.rules.specs.declared.TankFlow.{TankFlow}
use Rattle.rules.specs.declared.Removal.{Removal}
use Rattle.rules.specs.declared.Readings.{Readings}
use Rattle.rules.specs.declared.Candidate.{Candidate}
use Rattle.rules.specs.declared.Sheet.{Sheet}
use Rattle.rules.specs.declared.Refusal.{Refusal}
use Rattle.rules.specs.Results.{Answer}

-- an examiner's answer differs from the definition's somewhere
abbrev Wrong : (Plant → Readings → Candidate → Answer) → Type 0
Wrong answer = ((p : Plant) (r : Readings) (y : Candidate) → answer p r y ≡ examine p r y) → ⊥

-- a figure of the definition is the right one, and the wrong one is another
abbrev pub Differ : (figure right wrong : ℕ) → Type 0
Differ figure right wrong = (figure ≡ right) × (right ≡ wrong → ⊥)

-- what a plant gets with Case A's readings
abbrev pub answer_at : Plant → ℕ → ℕ → ℕ → Answer
answer_at p f r h = examine p readings_a (candidate f r h)

abbrev pub sheet_at : Plant → ℕ → ℕ → ℕ → Sheet
sheet_at p f r h = answer_sheet (answer_at p f r h)

-- Case A's plant with another process and nitrate target
unfoldable pub with_process : Process → ℕ → Plant
with_process process target = variant 5_000 target 1_000 5_000 process TankFlow.Horizontal Removal.Scraper

abbrev simultaneous : Plant
simultaneous = with_process Process.Simultaneous 9_000

-- 7 or a sheet's 0 for that plant at a fraction, by a rounding of o for the capacity
abbrev number_by : (ℕ → ℕ) → ℕ → ℕ
number_by uptake f =
    let reactor = reactor_of simultaneous concentrations_a f in
    cond (covered (down (75 * f * uptake (corrected_age reactor.age 12)) 290_000 * 200_000) reactor.removed_by_dose reactor.denitrified) 0 7

-- its hourly oxygen, by a rounding of o for the aeration
abbrev oxygen_by : (ℕ → ℕ) → ℕ → ℕ
oxygen_by uptake f =
    let reactor = reactor_of simultaneous concentrations_a f in
    hourly_oxygen
    (carbon_oxygen 5_000 200_000 (uptake (corrected_age reactor.age 20)) - saved_oxygen 5_000 reactor.denitrified)
    (nitrification_oxygen 5_000 reactor.nitrified)
    120
    200

-- the depth of Case A at r 50 and h 20, where q is held at 1,600, V is 294 and E 2,939, by its sludge volume loading
abbrev depth_by : ℕ → ℕ
depth_by loading =
    max
    3_000
    (500 + up (5 * 1_600 * 150) (1000 - 294) + up (9 * loading * 150) 1000 + up (2_939 * 1_600 * 150 * 20) (1000 * 12_599))

-- a site that is too small and too shallow for Case A's settling tank, and the verdict with 10 asked before 9
abbrev small_site : Plant
small_site = variant 5_000 10_000 400 4_000 Process.PreAnoxic TankFlow.Horizontal Removal.Scraper

abbrev depth_first : ℕ
depth_first =
    let settling = settling_of small_site 75 20 in
    answer_number
    (verdict
    (rule Refusal.Solids (solids_kept settling.solids settling.sludge_volume)
    ∷ rule Refusal.Depth (leb settling.depth small_site.site_depth)
    ∷ rule Refusal.Surface (leb settling.surface small_site.site_surface)
    ∷ []))

pub record Refuted : Type 0 where
  -- it asks for the depth before the surface: a candidate that breaks both gets 10 instead of 9
  pub depth_before_surface : Differ (answer_number (answer_at small_site 300 75 20)) 9 depth_first
  -- it answers 7 to everything: Case A gets a sheet
  pub always_7 : Wrong (λ p r y. Err Refusal.Nitrate)
  -- it answers Case A's sheet to everything: the fraction 299 is refused
  pub always_case_a : Wrong (λ p r y. Ok (sheet_at case_a 300 75 20))
  -- it does so for every candidate that gets a sheet: the return ratio 50 has another depth
  pub case_a_for_candidates : Differ (sheet_at case_a 300 50 20).depth 3_956 (sheet_at case_a 300 75 20).depth
  -- it does so for every plant that gets a sheet: suction has other solids
  pub case_a_for_plants :
      Differ (sheet_at (variant 5_000 10_000 1_000 5_000 Process.PreAnoxic TankFlow.Horizontal Removal.Suction) 300 75 20).solids 2_699 (sheet_at case_a 300 75 20).solids
  -- it rounds o up for the capacity, as for the aeration: it gives a sheet where 7 is due
  pub uptake_up : Differ (answer_number (answer_at simultaneous 452 75 20)) (number_by capacity_uptake 452) (number_by aeration_uptake 452)
  -- it rounds o down for the aeration, as for the capacity: its sheet has too little oxygen
  pub uptake_down : Differ (sheet_at simultaneous 453 75 20).oxygen (oxygen_by aeration_uptake 453) (oxygen_by capacity_uptake 453)
  -- it keeps q_SV at 500 in the depth after q was held at m
  pub loading_kept : Differ (sheet_at case_a 300 50 20).depth (depth_by (up (1_600 * 294) 1000)) (depth_by 500)
  -- it takes the reactor's volume with E in step-feed too
  pub solids_not_raised :
      Differ (sheet_at (with_process (Process.StepFeed Steps.Two) 10_000) 300 75 20).reactor (reactor_volume 11_733 4_308) (reactor_volume 11_733 3_779)
