-- Limit and price are two words. Assumes nothing.
use Rattle.std.proofs.Common.{refl}
use Rattle.quoting.proofs.band.Goals as goal

pub returns : goal.returns
returns c = rw (c.word.ensures, c.word-2.ensures) refl
