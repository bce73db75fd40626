-- `explained` meets its contract: the stages are the steps', and the figures are handed on. Assumes nothing.
use Rattle.std.proofs.Common.{refl}
use Rattle.rules.specs.AgeNitrate.{removed_by_bod, removable}
use Rattle.rules.specs.Explaining.{explained_by, candidate_explained}
use Rattle.explaining.proofs.explained.Goals as goal

pub returns : goal.returns
unfolding candidate_explained explained_by removed_by_bod removable
returns c =
    let staged = c.stages_of-stages.ensures in
    let reactor = rw c.new-basis.ensures at staged.reactor in
    let settling = rw c.new-basis.ensures at staged.settling in
    let verdict = rw c.new-basis.ensures at staged.verdict in
    let terms = rw c.new-basis.ensures at c.terms_explained.ensures in
    rw (
      ← reactor,
      ← settling,
      ← verdict,
      ← terms,
      c.get-removed_by_bod.ensures.0,
      c.get-removed_by_dose.ensures.0,
      c.get.ensures.0,
      c.get-2.ensures.0,
      c.get-3.ensures.0,
      c.get-4.ensures.0,
      c.get-5.ensures.0,
    ) refl
