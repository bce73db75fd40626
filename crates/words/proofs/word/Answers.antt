-- `word` meets its contract: the library's sum is the definition's. Assumes nothing.
use Rattle.std.proofs.Common.{arith}
use Rattle.words.specs.Bytes.{word}
use Rattle.words.proofs.word.Goals as goal

pub returns : goal.returns
unfolding word
returns c = omega (arith, c.from_le_bytes.ensures)
