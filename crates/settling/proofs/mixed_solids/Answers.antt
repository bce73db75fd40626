-- The quotient is the definition's, which has its limits. Assumes nothing.
use Rattle.std.proofs.Common.{arith, refl}
use Rattle.rules.specs.SettlingSteps.{mixed_solids}
use Rattle.settling.proofs.Limits.{mixed_half, mixed_limits}
use Rattle.settling.proofs.mixed_solids.Goals as goal

pub new-requires : goal.new-requires
unfolding mixed_solids
new-requires c = (omega arith, mixed_limits c.get.ensures.1 c.get-ratio.ensures.1)

pub returns : goal.returns
unfolding mixed_solids
returns c = rw (c.new.ensures, ← c.get.ensures.0, ← c.get-ratio.ensures.0) (refl, mixed_half c.get.result c.get-ratio.ensures.1)
