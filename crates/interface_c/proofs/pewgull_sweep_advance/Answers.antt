-- The outcome is that of the call that it hands on to. Assumes nothing.
use Rattle.std.proofs.Common.{ap}
use Rattle.resuming.specs.States.{beside}
use Rattle.interface_c.proofs.pewgull_sweep_advance.Goals as goal

pub returns : goal.returns
returns c = rw (ap (beside c.advance.new.state) (c.finish.ensures c.advance.new.page)) c.advance.ensures
