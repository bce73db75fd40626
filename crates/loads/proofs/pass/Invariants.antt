-- The window is that of the days passed. Assumes nothing.
use Rattle.loads.proofs.Windows.{Passed}
use Rattle.loads.proofs.pass.Given as goal

abbrev pub invariant-day : goal.invariant-day
invariant-day l = Passed l.log l.i l.window
