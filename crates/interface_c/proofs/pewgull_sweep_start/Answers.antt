-- The outcome is that of the call that it hands on to. Assumes nothing.
use Rattle.std.proofs.Common.{◌∙◌}
use Rattle.interface_c.proofs.pewgull_sweep_start.Goals as goal

pub returns : goal.returns
returns c = c.finish.ensures _ ∙ c.start.ensures
