-- `Tanks::key` meets its contract: a candidate whose tank breaks a rule has no key. Assumes nothing.
use Rattle.choosing.proofs.Stepping.{no_key, one_key}
use Rattle.choosing.proofs.tanks.Tanks.key.Goals as goal

pub returns-in_err-tank : goal.returns-in_err-tank
returns-in_err-tank c =
    rw c.from_residual.ensures
    (no_key c.args.self.now.basis.now.data c.args.fraction c.args.mass c.args.i c.requires.1 c.requires.0 c.in_err-tank.ensures)

pub returns : goal.returns
returns c =
    one_key c.args.self.now.basis.now.data c.args.fraction c.args.mass c.args.i c.requires.1 c.requires.0 c.in_ok-tank.tank _
    c.in_ok-tank.ensures
    (rw (c.reactor_volume-volume.ensures.0, c.new.ensures, c.from.ensures, c.from-2.ensures))
