-- `corrected_age` meets its contract: the decay is that at the temperature. Assumes nothing.
use Rattle.std.proofs.Common.{refl}
use Rattle.rules.specs.AgeNitrate.{corrected_age}
use Rattle.reactor.proofs.age.corrected_age.Goals as goal

pub returns-clause-value : goal.returns-clause-value
unfolding corrected_age
returns-clause-value c = rw (c.corrected_by.ensures.value, c.decay.ensures) refl
