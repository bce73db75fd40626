-- `judge_tank` meets its contract: the tank's refusal, or the sheet of the steps. Assumes nothing.
use Rattle.std.proofs.lemmas.Result.{err_from_is_err_and}
use Rattle.rules.specs.Examining.{answer_by, sheet_of}
use Rattle.examining.specs.Stages.{judge_tank}
use Rattle.examining.proofs.judge_tank.Goals as goal

pub returns-in_err-tank_verdict : goal.returns-in_err-tank_verdict
unfolding judge_tank answer_by
returns-in_err-tank_verdict c =
    let p = err_from_is_err_and c.from_residual.result c.from_residual.ensures.1 in
    rw (p.1, p.2, ← c.settling_of-settling.ensures, ← c.in_err-tank_verdict.ensures)

pub returns : goal.returns
unfolding judge_tank answer_by sheet_of
returns c =
    rw (c.sheet_from.ensures, c.aeration-aeration.ensures, ← c.settling_of-settling.ensures, ← c.requires, ← c.in_ok-tank_verdict.ensures)
