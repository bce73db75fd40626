-- `pass` meets its contract: each day is read and passed, and the first that is refused refuses the log. Assumes nothing.
use Rattle.std.proofs.Common.{◌≡◌, ap, subst, ◌∙◌, arith}
use Rattle.std.proofs.lemmas.Result.{err_from_is_err_and}
use Rattle.loads.specs.Windows.{stepped}
use Rattle.loads.proofs.Windows.{Passed}
use Rattle.loads.proofs.Passing.{day_read, none_passed, room, one_more_passed, day_refused, all_kept_lem}
use Rattle.loads.proofs.pass.Goals as goal

pub day-init : goal.day-init
day-init c = none_passed c.args.log.now

pub step-requires : goal.step-requires
step-requires c = room c.args.log.now c.day.i c.day.window c.day.invariant (omega arith)

pub day-preserved : goal.day-preserved
day-preserved c =
    let day =
    day_read c.args.log.now c.args.count c.day.i _ _ _ _ c.requires.1 c.word.ensures c.float-flow.ensures c.word-in-day.ensures c.float-bod.ensures in
    one_more_passed c.args.log.now c.day.i c.day.window c.day.invariant _ (c.in_ok-window.ensures ∙ ap (stepped c.day.window) day)

pub returns-in_err-window : goal.returns-in_err-window
returns-in_err-window c =
    let day =
    day_read c.args.log.now c.args.count c.day.i _ _ _ _ c.requires.1 c.word.ensures c.float-flow.ensures c.word-in-day.ensures c.float-bod.ensures in
    let p = err_from_is_err_and c.from_residual.result c.from_residual.ensures.1 in
    rw (p.1, p.2)
    (day_refused c.args.log.now c.day.i c.day.window c.day.invariant c.requires.0 (omega arith) _ (c.in_err-window.ensures ∙ ap (stepped c.day.window) day))

pub returns : goal.returns
returns c =
    let done : c.day.i ≡ c.args.count = omega arith in
    all_kept_lem c.args.log.now c.requires.0 c.day.window (subst (λ n. Passed c.args.log.now n c.day.window) (done ∙ c.requires.1) c.day.invariant)
