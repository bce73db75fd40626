-- The number and the load follow from the answer. Assumes nothing.
use Rattle.rules.proofs.DayLogLaws.{load_outcome}
use Rattle.pewgull.proofs.load.Goals as goal

pub returns-clause-numbered : goal.returns-clause-numbered
returns-clause-numbered c = load_outcome _ c.two_week_load.result c.two_week_load.ensures
