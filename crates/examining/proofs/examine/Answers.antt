-- `examine` meets its contract: a refusal of the data stands, accepted data are judged, and the columns follow from the answer.
-- Assumes nothing.
use Rattle.std.proofs.lemmas.Result.{err_from_is_err_and}
use Rattle.accepting.proofs.Accepted.{accepted_data, refused_data}
use Rattle.rules.specs.Examining.{judge_accepted, examine}
use Rattle.rules.proofs.NitrateColumns.{examined_columns}
use Rattle.examining.proofs.examine.Goals as goal

pub returns-in_err-accepted-clause-value : goal.returns-in_err-accepted-clause-value
unfolding examine judge_accepted
returns-in_err-accepted-clause-value c =
    let p = err_from_is_err_and c.from_residual.result c.from_residual.ensures.1 in
    rw (p.1, p.2, refused_data c.args.plant c.args.readings c.accept.result c.accept.ensures.value c.in_err-accepted.was)

pub returns-clause-value : goal.returns-clause-value
unfolding examine judge_accepted
returns-clause-value c =
    let known = accepted_data c.args.plant c.args.readings c.accept.result c.accept.ensures.value c.accept.ensures.plant c.in_ok-accepted.was in
    rw (known.1, ← known.0) c.judge.ensures

pub returns-clause-columns : goal.returns-clause-columns
returns-clause-columns c = examined_columns c.args.plant c.args.readings c.args.candidate _ (returns-clause-value c)
