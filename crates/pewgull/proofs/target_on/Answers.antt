-- The number and the target follow from the answer. Assumes nothing.
use Rattle.rules.proofs.TargetLaws.{target_outcome}
use Rattle.pewgull.proofs.target_on.Goals as goal

pub returns-clause-numbered : goal.returns-clause-numbered
returns-clause-numbered c = target_outcome c.args.consent c.args.date c.target_on.result c.target_on.ensures
