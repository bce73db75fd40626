-- A finished sweep's state moves where its listing fits. Assumes nothing.
use Rattle.std.proofs.Common.{refl, length, arith}
use Rattle.std.proofs.lemmas.Bool.{le-leb, lt-leb}
use Rattle.rules.specs.Listing.{listing}
use Rattle.resuming.specs.States.{advance_put}
use Rattle.resuming.proofs.Bytes.{state_stored}
use Rattle.resuming.proofs.put_progress.Goals as goal
use Rattle.resuming.proofs.put_progress.Goals.{then-length-page, else-length-page}

pub returns-after-length-page : goal.returns-after-length-page
unfolding advance_put
returns-after-length-page c =
    let long = length (listing c.in-Ok-Finished.answer) in
    let room = length c.args.page.now in
    let finished = rw c.in-Ok-Finished.is at c.in-Ok-Finished.field-0-is in
    rw (c.in-Ok-Finished.is, finished, ← c.put.ensures)
    (elim c.if-length-page.branch [
      | then-length-page w ↦ rw (le-leb long room (omega arith), w.state-is, w.put_sweep-then-length-page.ensures, state_stored c.args.state.now c.args.sweep c.requires) refl
      | else-length-page w ↦ rw (lt-leb long room (omega arith), w.state-is) refl
    ])
