-- `Tanks::run` meets its contract. Assumes nothing.
use Rattle.choosing.proofs.Stepping.{run_joined}
use Rattle.choosing.proofs.tanks.Tanks.run.Goals as goal

pub tank-preserved : goal.tank-preserved
tank-preserved c =
    run_joined c.args.self.now.basis.now.data c.args.fraction c.args.from c.tank.i c.tank.best _ _ c.tank.auto.i c.tank.invariant c.key.ensures c.first_of-best.ensures
