-- The number, the sums, the sheets and the columns follow from the works. Assumes nothing.
use Rattle.rules.proofs.WorksOutcomes.{works_outcome, works_columns}
use Rattle.pewgull.proofs.works.Goals as goal

pub returns-clause-columns : goal.returns-clause-columns
returns-clause-columns c = works_columns c.args.plant c.args.readings c.args.split c.works.result c.works.ensures

pub returns-clause-numbered : goal.returns-clause-numbered
returns-clause-numbered c = works_outcome c.args.plant c.args.readings c.args.split c.works.result c.works.ensures
