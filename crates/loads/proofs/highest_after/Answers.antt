-- `highest_after` meets its contract, by the outcome of its test. Assumes nothing.
use Rattle.std.proofs.Common.{arith}
use borrow.Author.Tests.{le-leb, lt-leb}
use Rattle.loads.specs.Windows.{highest_after}
use Rattle.loads.proofs.highest_after.Goals as goal

pub returns-then-days-ge14 : goal.returns-then-days-ge14
unfolding highest_after
returns-then-days-ge14 c = rw (le-leb 14 c.args.days (omega arith)) c.higher.ensures

pub returns-else-days-ge14 : goal.returns-else-days-ge14
unfolding highest_after
returns-else-days-ge14 c = rw (lt-leb 14 c.args.days (omega arith))
