-- `paused_transfer` meets its contract: the whole cycle over the part of it in which the blowers run. Assumes nothing.
use Rattle.std.proofs.Common.{refl}
use Rattle.rules.specs.AerationSteps.{paused_transfer}
use Rattle.aeration.proofs.paused_transfer.Goals as goal

pub returns : goal.returns
unfolding paused_transfer
returns c = rw (c.round_up.ensures, c.get.ensures.0, c.get-2.ensures.0, c.from-saturation.ensures) refl
