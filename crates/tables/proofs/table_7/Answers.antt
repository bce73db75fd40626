-- `table_7` meets its contract: the rows' counts by computation. Assumes nothing.
use Rattle.rules.specs.AgeNitrate.{per_degree, decay, corrected_age, capacity_uptake}
use Rattle.tables.specs.Values.{agrees, agreeing}
use Rattle.tables.proofs.table_7.Goals as goal

pub returns : goal.returns
unfolding per_degree decay corrected_age capacity_uptake agrees agreeing
returns c = rw c.agreeing.ensures
