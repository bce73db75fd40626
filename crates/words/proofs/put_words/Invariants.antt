-- The bytes of the words that are left, over the page as it is, are those of all the words over the page as it was.
use Rattle.std.proofs.Common.{◌≡◌, ◌+◌, ◌*◌, drop}
use Rattle.std.proofs.lemmas.List.Edits.{sets}
use Rattle.words.specs.Bytes.{word_bytes}
use Rattle.words.proofs.put_words.Given as goal

abbrev pub invariant-loop-i : goal.invariant-loop-i
invariant-loop-i l = sets l.page (l.at + 4 * l.i) (word_bytes (drop l.i l.words)) ≡ sets l.fn.page l.at (word_bytes l.words)
