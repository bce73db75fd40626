-- An index is won where the plant with that index is. Assumes nothing.
use Rattle.rules.specs.OtherSteps.{with_index}
use Rattle.existing.proofs.Tanks.won_at.Goals as goal

pub returns : goal.returns
unfolding with_index
returns c = c.won.ensures
