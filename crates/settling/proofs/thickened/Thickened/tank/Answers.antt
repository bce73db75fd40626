-- The product with the index, by what a `Thickened` says of itself; the figures together are the definition's tank. Assumes nothing.
use Rattle.std.proofs.Common.{arith}
use Rattle.settling.proofs.Limits.{solids_index}
use Rattle.settling.proofs.Bounds.{tank_figures}
use Rattle.settling.proofs.thickened.Thickened.tank.Goals as goal

pub diluted_volume-sludge_volume-requires : goal.diluted_volume-sludge_volume-requires
diluted_volume-sludge_volume-requires c =
    grind (arith, solids_index c.mixed_solids-solids.result c.args.self.now.bottom c.args.self.now.accepted.now.plant.sludge_volume_index, c.args.self.now.product)

pub returns : goal.returns
returns c = grind (arith, tank_figures)
