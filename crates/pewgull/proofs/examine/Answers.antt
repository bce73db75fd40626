-- The number and the sheet follow from the answer. Assumes nothing.
use Rattle.rules.proofs.OutcomeLaws.{examined_outcome}
use Rattle.pewgull.proofs.examine.Goals as goal

pub returns-clause-numbered : goal.returns-clause-numbered
returns-clause-numbered c = examined_outcome c.args.plant c.args.readings c.args.candidate c.examine.result c.examine.ensures.value
