-- `explain_candidate` meets its contract: off the grid it is 6, on it the candidate's figures. Assumes nothing.
use Rattle.std.proofs.Common.{refl, sym, ◌∙◌}
use Rattle.std.proofs.lemmas.Result.{err_from_is_err_and}
use Rattle.rules.specs.Explaining.{explain_candidate}
use Rattle.verdicts.proofs.Steps.{step_kept, step_broken}
use Rattle.examining.proofs.Verdicts.{inside}
use Rattle.explaining.proofs.explain_candidate.Goals as goal

pub returns-in_err-rule : goal.returns-in_err-rule
unfolding explain_candidate
returns-in_err-rule c =
    let p = err_from_is_err_and c.from_residual.result c.from_residual.ensures.1 in
    let broken = step_broken _ _ c.in_err-rule.ensures in
    rw (p.1, p.2, broken.1, ← c.on_grid.ensures, broken.0) refl

pub new-requires : goal.new-requires
new-requires c = inside c.args.accepted.now.plant c.args.candidate (sym c.on_grid.ensures ∙ step_kept _ _ c.in_ok-rule.ensures)

pub returns : goal.returns
unfolding explain_candidate
returns c = rw (← c.on_grid.ensures, step_kept _ _ c.in_ok-rule.ensures, c.explained.ensures, c.new.ensures)
