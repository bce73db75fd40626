-- `no_number` meets its contract by the law of its two comparisons. Assumes nothing.
use mathlib.Core.Bool.{not}
use Rattle.std.proofs.Common.{ap, ◌∙◌}
use Rattle.accepting.proofs.NumberTest.{number_test}
use Rattle.accepting.proofs.no_number.Goals as goal
use Rattle.accepting.proofs.no_number.Goals.{then-x, else-x}

pub returns : goal.returns
returns c =
    elim c.if-x.branch [
      | then-x w ↦ ap not w.result-is ∙ (rw w.if-x.true at (number_test c.args.x))
      | else-x w ↦ ap not (w.result-is ∙ w.if-x.false) ∙ (rw w.if-x.false at (number_test c.args.x))
    ]
