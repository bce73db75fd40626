-- A limit is read as a limit. Assumes nothing.
use Rattle.std.proofs.Common.{refl}
use Rattle.request.proofs.reading.Goals as goal

pub returns-in-1 : goal.returns-in-1
returns-in-1 c = rw (c.in-1.is, c.float-in-1.ensures) refl
