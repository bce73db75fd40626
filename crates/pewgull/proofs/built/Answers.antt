-- The number and the index follow from the answer. Assumes nothing.
use Rattle.rules.proofs.ExistingLaws.{built_outcome}
use Rattle.pewgull.proofs.built.Goals as goal

pub returns-clause-numbered : goal.returns-clause-numbered
returns-clause-numbered c = built_outcome c.args.plant c.args.readings c.args.existing c.args.span c.built.result c.built.ensures
