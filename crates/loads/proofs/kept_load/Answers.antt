-- `kept_load` meets its contract: the product of two values, or the refusal of the first that is refused. Assumes nothing.
use Rattle.std.proofs.lemmas.Result.{err_from_is_err_and}
use Rattle.loads.proofs.Counting.{flow_refused, bod_refused, both_given}
use Rattle.loads.proofs.kept_load.Goals as goal

pub returns-in_err-flow-clause-value : goal.returns-in_err-flow-clause-value
returns-in_err-flow-clause-value c =
    let p = err_from_is_err_and c.from_residual.result c.from_residual.ensures.1 in
    rw (p.1, p.2) (flow_refused c.args.day _ c.in_err-flow.ensures.value)

pub returns-in_err-bod-clause-value : goal.returns-in_err-bod-clause-value
returns-in_err-bod-clause-value c =
    let p = err_from_is_err_and c.from_residual-in_err-bod.result c.from_residual-in_err-bod.ensures.1 in
    rw (p.1, p.2) (bod_refused c.args.day _ _ c.in_ok-flow.ensures.value c.in_err-bod.ensures.value)

pub returns-clause-value : goal.returns-clause-value
returns-clause-value c = both_given c.args.day _ _ c.in_ok-flow.ensures.value c.in_ok-bod.ensures.value
