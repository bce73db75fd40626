-- The sheets that examining and choosing answer with have their volumes within limits. Assumes nothing.
use mathlib.Core.Logic.{inl, inr}
use mathlib.Core.Path.{◌≡◌, sym, subst}
use native.Mathlib.Omega.{arith}
use Rattle.std.specs.Prelude.{Ok, Err}
use Rattle.rules.specs.Ranges.{VolumeBounds}
use Rattle.rules.specs.Accepting.{values_of}
use Rattle.rules.specs.Examining.{examine}
use Rattle.rules.specs.Outcomes.{ChosenOutcome}
use Rattle.rules.specs.Answers.{answer_number, answer_sheet}
use Rattle.rules.specs.Choosing.{candidate_of, Chosen}
use Rattle.rules.specs.declared.Plant.{Plant}
use Rattle.rules.specs.declared.Readings.{Readings}
use Rattle.rules.specs.declared.Candidate.{Candidate}
use Rattle.rules.specs.Results.{Answer}
use Rattle.rules.proofs.AcceptedData.{none_due_ranges}
use Rattle.rules.proofs.RangeFacts.{on_grid_lem}
use Rattle.rules.proofs.RuleOrder.{refusal_number_between}
use Rattle.rules.proofs.Examined.{sheet_when_kept, kept_when_permitted, permitted_keeps}
use Rattle.rules.proofs.OutcomeLaws.{chosen_outcome}
use Rattle.examining.proofs.Bounds.{volume_bounds}
use Rattle.pricing.specs.Bands.{AnswerVolumes}

-- a permitted candidate of accepted data on the grid
pub examined_volumes : (p : Plant) (r : Readings) (y : Candidate) (a : Answer) → a ≡ examine p r y → AnswerVolumes a
examined_volumes p r y (Err n) e = tt
examined_volumes p r y (Ok s) e =
    let kept = (sheet_when_kept p r y s).0 (sym e) in
    let both = (kept_when_permitted p r y).0 kept.0 in
    let ranges = none_due_ranges p r both.0 in
    let grid = on_grid_lem p.tank y ((permitted_keeps p (values_of p r) y).0 both.1).grid in
    subst VolumeBounds kept.1 (volume_bounds p (values_of p r) y ranges.0 ranges.1 grid)

pub chosen_volumes : (p : Plant) (r : Readings) (a : Answer) → Chosen p r a → AnswerVolumes a
unfolding answer_number answer_sheet
chosen_volumes p r (Err n) h = tt
chosen_volumes p r (Ok s) h = go (chosen_outcome p r (Ok s) h)
  where
    go : ChosenOutcome p r 0 s → VolumeBounds s
    go (inl d) =
        let ranges = none_due_ranges p r d.kept in
        subst VolumeBounds (sym d.least.figures)
        (volume_bounds p (values_of p r) (candidate_of s) ranges.0 ranges.1 (on_grid_lem p.tank (candidate_of s) d.least.member))
    go (inr d) = absurd (omega (arith, d.numbered, refusal_number_between d.refusal))
