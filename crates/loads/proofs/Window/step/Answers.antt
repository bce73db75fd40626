-- A step by what its day's load is. Assumes nothing.
use Rattle.std.proofs.lemmas.Result.{err_from_is_err_and}
use Rattle.loads.specs.Windows.{moved}
use Rattle.loads.proofs.Counting.{stepped_by, not_stepped}
use Rattle.loads.proofs.Window.step.Goals as goal

pub returns-in_err-load : goal.returns-in_err-load
returns-in_err-load c =
    let p = err_from_is_err_and c.from_residual.result c.from_residual.ensures.1 in
    rw (p.1, p.2) (not_stepped c.args.day c.args.self _ c.in_err-load.ensures.value)

pub returns : goal.returns
unfolding moved
returns c = rw c.highest_after-self.ensures (stepped_by c.args.day c.args.self _ c.in_ok-load.ensures.value)
