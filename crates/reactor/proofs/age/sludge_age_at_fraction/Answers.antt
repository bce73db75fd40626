-- `sludge_age_at_fraction` meets its contract: the aerobic age is what the fraction leaves of the whole. Assumes nothing.
use Rattle.std.proofs.Common.{refl}
use Rattle.rules.specs.AgeNitrate.{sludge_age}
use Rattle.reactor.proofs.age.sludge_age_at_fraction.Goals as goal

pub returns : goal.returns
unfolding sludge_age
returns c = rw (c.new.ensures, c.round_up.ensures, c.get.ensures.0) refl
