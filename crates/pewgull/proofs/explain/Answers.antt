-- The number and the figures follow from the explanation. Assumes nothing.
use Rattle.rules.proofs.OutcomeLaws.{explained_outcome}
use Rattle.pewgull.proofs.explain.Goals as goal

pub returns-clause-numbered : goal.returns-clause-numbered
returns-clause-numbered c = explained_outcome c.args.plant c.args.readings c.args.candidate c.explain.result c.explain.ensures
