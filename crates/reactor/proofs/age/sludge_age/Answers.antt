-- `sludge_age` meets its contract: a fraction of the grid is a number up to its largest. Assumes nothing.
use Rattle.std.proofs.Common.{refl}
use Rattle.rules.specs.AgeNitrate.{sludge_age}
use Rattle.reactor.proofs.age.sludge_age.Goals as goal

pub returns : goal.returns
unfolding sludge_age
returns c = rw (c.sludge_age_at_fraction.ensures, c.get.ensures.0) refl
