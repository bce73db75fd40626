-- `part` meets its contract: a fraction that is not covered has no key. Assumes nothing.
use Rattle.choosing.proofs.Stepping.{uncovered}
use Rattle.sweeping.proofs.part.Goals as goal

pub returns-in_err-mass : goal.returns-in_err-mass
returns-in_err-mass c =
    rw c.from_residual.ensures (uncovered c.args.tanks.now.basis.now.data c.args.fraction c.args.from c.args.to (rw (c.new.ensures, c.from.ensures) at c.in_err-mass.ensures))
