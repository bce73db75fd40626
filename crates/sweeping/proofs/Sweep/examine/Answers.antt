-- `Sweep::examine` meets its contract: the answer is that of examining the state's plant data and readings. Assumes nothing.
use Rattle.rules.proofs.OutcomeLaws.{examined_outcome}
use Rattle.sweeping.proofs.Sweep.examine.Goals as goal

pub returns-clause-numbered : goal.returns-clause-numbered
returns-clause-numbered c = examined_outcome _ _ _ c.examine.result c.examine.ensures.value
