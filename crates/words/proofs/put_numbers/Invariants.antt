-- The bytes of the numbers that are left, over the page as it is, are those of all the numbers over the page as it was.
use Rattle.std.proofs.Common.{◌≡◌, ◌*◌, drop}
use Rattle.std.proofs.lemmas.List.Edits.{sets}
use Rattle.words.specs.Bytes.{number_bytes}
use Rattle.words.proofs.put_numbers.Given as goal

abbrev pub invariant-loop-i : goal.invariant-loop-i
invariant-loop-i l = sets l.page (8 * l.i) (number_bytes (drop l.i l.numbers)) ≡ sets l.fn.page 0 (number_bytes l.numbers)
