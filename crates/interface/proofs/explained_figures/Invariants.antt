-- The figures of the terms that are left, over the list as it is, are those of all terms over the list with the first nine. Assumes nothing.
use Rattle.std.proofs.Common.{◌≡◌, ◌+◌, ◌*◌, drop}
use Rattle.std.proofs.lemmas.List.Edits.{sets}
use Rattle.words.specs.Bytes.{chunked}
use Rattle.rules.specs.Explanations.{term_figures}
use Rattle.interface.proofs.explained_figures.Given as goal

abbrev pub invariant-loop-i : goal.invariant-loop-i
invariant-loop-i l = sets l.figures (9 + 5 * l.i) (chunked term_figures (drop l.i l.explained.terms)) ≡ sets l.initial.figures 9 (chunked term_figures l.explained.terms)
