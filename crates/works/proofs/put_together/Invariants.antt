-- The lines passed have sheets, and the works so far is put together from these. Assumes nothing.
use Rattle.works.proofs.Filled.{Together}
use Rattle.works.proofs.put_together.Given as goal

abbrev pub invariant-line : goal.invariant-line
invariant-line l = Together l.answers l.i l.works
