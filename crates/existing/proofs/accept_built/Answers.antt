-- The rules in turn: at each exit those passed are kept, and the one that is not is the refusal. Assumes nothing.
use Rattle.std.proofs.lemmas.Result.{err_from_is_err_and}
use Rattle.existing.proofs.Winning.{in_turn}
use Rattle.existing.proofs.accept_built.Goals as goal

pub returns-in_err-rule-clause-value : goal.returns-in_err-rule-clause-value
returns-in_err-rule-clause-value c =
    let p = err_from_is_err_and c.from_residual.result c.from_residual.ensures.1 in
    rw (p.1, p.2, in_turn, ← c.span_valid.ensures, ← c.in_err-rule.ensures)

pub returns-in_err-rule-2-clause-value : goal.returns-in_err-rule-2-clause-value
returns-in_err-rule-2-clause-value c =
    let p = err_from_is_err_and c.from_residual-in_err-rule-2.result c.from_residual-in_err-rule-2.ensures.1 in
    rw (p.1, p.2, in_turn, ← c.span_valid.ensures, ← c.in_ok-rule.ensures, ← c.sizes_positive.ensures, ← c.in_err-rule-2.ensures)

pub returns-in_err-accepted-clause-value : goal.returns-in_err-accepted-clause-value
returns-in_err-accepted-clause-value c =
    let p = err_from_is_err_and c.from_residual-in_err-accepted.result c.from_residual-in_err-accepted.ensures.1 in
    rw (p.1, p.2, in_turn, ← c.span_valid.ensures, ← c.in_ok-rule.ensures, ← c.sizes_positive.ensures, ← c.in_ok-rule-2.ensures, ← c.in_err-accepted.ensures.value)

pub returns-in_err-rule-3-clause-value : goal.returns-in_err-rule-3-clause-value
returns-in_err-rule-3-clause-value c =
    let p = err_from_is_err_and c.from_residual-in_err-rule-3.result c.from_residual-in_err-rule-3.ensures.1 in
    rw (p.1, p.2, in_turn, ← c.span_valid.ensures, ← c.in_ok-rule.ensures, ← c.sizes_positive.ensures, ← c.in_ok-rule-2.ensures, ← c.in_ok-accepted.ensures.value, ← c.operated_on_grid.ensures, ← c.in_err-rule-3.ensures)

pub returns-clause-value : goal.returns-clause-value
returns-clause-value c =
    rw (in_turn, ← c.span_valid.ensures, ← c.in_ok-rule.ensures, ← c.sizes_positive.ensures, ← c.in_ok-rule-2.ensures, ← c.in_ok-accepted.ensures.value, ← c.operated_on_grid.ensures, ← c.in_ok-rule-3.ensures)
