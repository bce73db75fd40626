-- Number, sheet and columns follow from the line's answer. Assumes nothing.
use Rattle.rules.proofs.LineOutcomes.{line_outcome, line_with_columns}
use Rattle.pewgull.proofs.line.Goals as goal

pub returns-clause-columns : goal.returns-clause-columns
returns-clause-columns c = line_with_columns c.args.plant c.args.readings c.args.split c.args.number c.line.result c.line.ensures

pub returns-clause-numbered : goal.returns-clause-numbered
returns-clause-numbered c = line_outcome c.args.plant c.args.readings c.args.split c.args.number c.line.result c.line.ensures
