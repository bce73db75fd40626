-- `judge` meets its contract: a candidate off the grid has its refusal, and one that passes the grid's test has the grid's ranges.
-- Assumes nothing.
use Rattle.std.proofs.Common.{sym, ◌∙◌}
use Rattle.std.proofs.lemmas.Result.{err_from_is_err_and}
use Rattle.verdicts.proofs.Steps.{step_kept, step_broken}
use Rattle.examining.proofs.Verdicts.{inside, off_grid}
use Rattle.examining.proofs.judge.Goals as goal

pub returns-in_err-rule : goal.returns-in_err-rule
returns-in_err-rule c =
    let p = err_from_is_err_and c.from_residual.result c.from_residual.ensures.1 in
    let broken = step_broken _ _ c.in_err-rule.ensures in
    rw (p.1, p.2, broken.1) (off_grid c.args.accepted.now.plant c.args.accepted.now.concentrations c.args.candidate (sym c.on_grid-on_grid.ensures ∙ broken.0))

pub new-requires-2 : goal.new-requires-2
new-requires-2 c = inside c.args.accepted.now.plant c.args.candidate (sym c.on_grid-on_grid.ensures ∙ step_kept _ _ c.in_ok-rule.ensures)
