-- A tank's verdict is that of its figures. Assumes nothing.
use Rattle.settling.proofs.tank_verdict.Goals as goal

pub returns : goal.returns
returns c = rw (← c.get.ensures.0, ← c.get-2.ensures.0, ← c.get-3.ensures.0, ← c.get-4.ensures.0) (c.figures_verdict.ensures c.args.settling.now.volume)
