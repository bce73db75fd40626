-- `oxygen_transfer` meets its contract: 2 mg/l of oxygen are kept, of the plant's own saturation. Assumes nothing.
use Rattle.std.proofs.Common.{refl}
use Rattle.rules.specs.AerationSteps.{oxygen_transfer}
use Rattle.aeration.proofs.oxygen_transfer.Goals as goal

pub returns : goal.returns
unfolding oxygen_transfer
returns c = rw (c.round_up.ensures, c.get.ensures.0, c.from-saturation.ensures) refl
