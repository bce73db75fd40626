-- `table_2` meets its contract: the rows' counts by computation. Assumes nothing.
use Rattle.std.proofs.Common.{refl}
use Rattle.rules.specs.AgeNitrate.{safety_factor, per_degree, growth, aerobic_age, sludge_age}
use Rattle.tables.specs.Values.{agrees, agreeing}
use Rattle.tables.proofs.table_2.Goals as goal

pub returns : goal.returns
unfolding safety_factor per_degree growth aerobic_age sludge_age agrees agreeing
returns c = rw c.agreeing.ensures refl
