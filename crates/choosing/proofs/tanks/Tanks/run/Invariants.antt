-- The least key among the candidates that the run has been through.
use Rattle.choosing.specs.Runs.{LeastOfRun}
use Rattle.choosing.proofs.tanks.Tanks.run.Given as goal

abbrev pub invariant-tank : goal.invariant-tank
invariant-tank l = LeastOfRun l.self.basis.now.data l.fraction l.from l.i l.best
