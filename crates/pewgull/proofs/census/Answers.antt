-- The number and the counts follow from the census. Assumes nothing.
use Rattle.rules.proofs.CensusOutcomes.{census_outcome}
use Rattle.pewgull.proofs.census.Goals as goal

pub returns-clause-numbered : goal.returns-clause-numbered
returns-clause-numbered c = census_outcome c.args.plant c.args.readings c.census.result c.census.ensures
