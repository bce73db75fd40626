-- Each end of the span is its word. Assumes nothing.
use Rattle.std.proofs.Common.{refl}
use Rattle.standing.proofs.span_of.Goals as goal

pub returns : goal.returns
returns c = rw (c.word.ensures, c.word-2.ensures) refl
