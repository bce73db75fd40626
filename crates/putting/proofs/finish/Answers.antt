-- A malformed request has its fault's number, and no byte is written; a reply keeps its own. Assumes nothing.
use Rattle.std.proofs.Common.{refl}
use Rattle.putting.specs.Outcomes.{outcome, malformed}
use Rattle.putting.proofs.finish.Goals as goal

pub returns-in-Err : goal.returns-in-Err
unfolding malformed
returns-in-Err c = rw c.in-Err.is (λ page i. outcome (c.fault_number.ensures i) page 0)

pub returns-in-Ok : goal.returns-in-Ok
returns-in-Ok c = λ page. rw c.in-Ok.is refl
