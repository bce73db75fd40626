-- The number comes first, and then the three of the best. Assumes nothing.
use Rattle.std.proofs.Common.{refl}
use Rattle.resuming.specs.States.{best_words}
use Rattle.resuming.proofs.own_words.Goals as goal

pub returns-in-Some : goal.returns-in-Some
unfolding best_words
returns-in-Some c = rw c.in-Some.is refl
