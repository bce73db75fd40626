-- `explain` meets its contract: a refusal of the data stands, accepted data are explained. Assumes nothing.
use Rattle.std.proofs.lemmas.Result.{err_from_is_err_and}
use Rattle.accepting.proofs.Accepted.{accepted_data, refused_data}
use Rattle.rules.specs.Explaining.{explain_accepted, explain}
use Rattle.explaining.proofs.explain.Goals as goal

pub returns-in_err-accepted : goal.returns-in_err-accepted
unfolding explain explain_accepted
returns-in_err-accepted c =
    let p = err_from_is_err_and c.from_residual.result c.from_residual.ensures.1 in
    rw (p.1, p.2, refused_data c.args.plant c.args.readings c.accept.result c.accept.ensures.value c.in_err-accepted.was)

pub returns : goal.returns
unfolding explain explain_accepted
returns c =
    let known = accepted_data c.args.plant c.args.readings c.accept.result c.accept.ensures.value c.accept.ensures.plant c.in_ok-accepted.was in
    rw (known.1, ← known.0) c.explain_candidate.ensures
