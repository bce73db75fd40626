-- `table_5` meets its contract: the rows' counts by computation. Assumes nothing.
use Rattle.rules.specs.AgeNitrate.{per_degree, decay, corrected_age}
use Rattle.rules.specs.ReactorSteps.{biomass_decay}
use Rattle.tables.specs.Values.{agrees, agreeing}
use Rattle.tables.proofs.table_5.Goals as goal

pub returns : goal.returns
unfolding per_degree decay corrected_age biomass_decay agrees agreeing
returns c = rw c.agreeing.ensures
