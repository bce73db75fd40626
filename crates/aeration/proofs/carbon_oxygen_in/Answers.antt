-- By COD the oxygen is that of the COD and the solids of the plant's own data. Assumes nothing.
use Rattle.std.proofs.Common.{refl}
use Rattle.rules.specs.AerationSteps.{carbon_oxygen_in}
use Rattle.aeration.proofs.carbon_oxygen_in.Goals as goal

pub returns-in-Cod : goal.returns-in-Cod
unfolding carbon_oxygen_in
returns-in-Cod c = rw (c.in-Cod.is, c.carbon_oxygen-in-Cod.ensures) refl
