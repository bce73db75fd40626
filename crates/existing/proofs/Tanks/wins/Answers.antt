-- The tank's rules are kept where their verdict is. Assumes nothing.
use Rattle.existing.proofs.Winning.{tank_by_verdict}
use Rattle.existing.proofs.Tanks.wins.Goals as goal

pub returns-then-is_err : goal.returns-then-is_err
returns-then-is_err c =
    let tanks = c.args.self.now in
    let tank = rw (c.requires.0, c.requires.1) at c.tank-settling.ensures in
    rw (tank_by_verdict tanks.accepted.plant tanks.existing tanks.mass c.args.ratio _ _ tank c.tank_verdict.ensures, c.is_err.ensures.negation, c.if-is_err.true)

pub returns : goal.returns
returns c =
    let tanks = c.args.self.now in
    let tank = rw (c.requires.0, c.requires.1) at c.tank-settling.ensures in
    rw (tank_by_verdict tanks.accepted.plant tanks.existing tanks.mass c.args.ratio _ _ tank c.tank_verdict.ensures, c.is_err.ensures.negation, c.if-is_err.false)
    (rw (← c.get-surface.ensures.0, ← c.get-depth.ensures.0, ← c.reactor_solids-solids.ensures.value, ← c.reactor_volume-volume.ensures.0) c.sizes_fit.ensures)
