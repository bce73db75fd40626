-- The number and the sheet follow from demand 3. Assumes nothing.
use Rattle.rules.proofs.OutcomeLaws.{chosen_outcome}
use Rattle.pewgull.proofs.choose.Goals as goal

pub returns-clause-numbered : goal.returns-clause-numbered
returns-clause-numbered c = chosen_outcome c.args.plant c.args.readings c.choose.result c.choose.ensures.chosen
