-- `convert_at_flow` meets its contract: an f32 that has thousandths is judged by them, and one that has none is refused. Assumes nothing.
use Rattle.std.proofs.Common.{ap, ◌∙◌}
use Rattle.std.proofs.lemmas.Result.{err_from_is_err_and}
use Rattle.accepting.proofs.Conversions.{judge_measurement, measured, below}
use Rattle.accepting.proofs.convert_at_flow.Goals as goal

pub returns-in_err-to_thousandths-in-Measured : goal.returns-in_err-to_thousandths-in-Measured
returns-in_err-to_thousandths-in-Measured c =
    let p = err_from_is_err_and c.from_residual.result c.from_residual.ensures.1 in
    rw (p.1, p.2, c.in-Measured.is)
    (ap (judge_measurement c.args.parameter) c.in_err-to_thousandths-in-Measured.ensures ∙ measured _ _ c.args.parameter c.in-Measured.x)

pub returns-in_err-to_thousandths-in-Below : goal.returns-in_err-to_thousandths-in-Below
returns-in_err-to_thousandths-in-Below c =
    let p = err_from_is_err_and c.from_residual-in_err-to_thousandths-in-Below.result c.from_residual-in_err-to_thousandths-in-Below.ensures.1 in
    rw (p.1, p.2, c.in-Below.is)
    (ap (judge_measurement c.args.parameter) c.in_err-to_thousandths-in-Below.ensures ∙ below _ _ c.args.parameter c.in-Below.x)

pub returns-in_ok-to_thousandths-in-Measured : goal.returns-in_ok-to_thousandths-in-Measured
returns-in_ok-to_thousandths-in-Measured c =
    rw (c.judge_result.ensures, c.in-Measured.is)
    (ap (judge_measurement c.args.parameter) c.in_ok-to_thousandths-in-Measured.ensures ∙ measured _ _ c.args.parameter c.in-Measured.x)

pub returns-in_ok-to_thousandths-in-Below : goal.returns-in_ok-to_thousandths-in-Below
returns-in_ok-to_thousandths-in-Below c =
    rw (c.judge_result-in-Below.ensures, c.in-Below.is)
    (ap (judge_measurement c.args.parameter) c.in_ok-to_thousandths-in-Below.ensures ∙ below _ _ c.args.parameter c.in-Below.x)
