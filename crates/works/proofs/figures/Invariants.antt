-- The figures of the sheets that are left, over the list as it is, are those of all sheets over the list with the sums. Assumes nothing.
use mathlib.Core.Path.{◌≡◌}
use Prim.Native.Nat.{◌+◌, ◌*◌}
use lib.ListN.{drop}
use lib.Seq.{sets}
use Rattle.words.specs.Bytes.{chunked}
use Rattle.rules.specs.Answers.{sheet_figures}
use Rattle.works.proofs.figures.Given as goal

abbrev pub invariant-loop-i : goal.invariant-loop-i
invariant-loop-i l = sets l.figures (8 + 15 * l.i) (chunked sheet_figures (drop l.i l.fn.works.sheets)) ≡ sets l.initial.figures 8 (chunked sheet_figures l.fn.works.sheets)
