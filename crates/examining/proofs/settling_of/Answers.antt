-- The tank is that of the candidate's own thickening time. Assumes nothing.
use Rattle.std.proofs.Common.{refl}
use Rattle.examining.proofs.settling_of.Goals as goal

pub returns : goal.returns
returns c = rw (c.tank.ensures, c.new.ensures.0, c.new.ensures.1, c.thickening.ensures, c.return_ratio.ensures) refl
