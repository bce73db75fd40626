-- A refusal of the data stands, and accepted data are counted. Assumes nothing.
use Rattle.std.proofs.lemmas.Result.{err_from_is_err_and}
use Rattle.rules.specs.Census.{census_accepted, census}
use Rattle.accepting.proofs.Accepted.{accepted_data, refused_data}
use Rattle.census.proofs.census.Goals as goal

pub returns-in_err-accepted : goal.returns-in_err-accepted
unfolding census census_accepted
returns-in_err-accepted c =
    let p = err_from_is_err_and c.from_residual.result c.from_residual.ensures.1 in
    rw (p.1, p.2, refused_data c.args.plant c.args.readings c.accept.result c.accept.ensures.value c.in_err-accepted.was)

pub returns : goal.returns
unfolding census census_accepted
returns c =
    let a = accepted_data c.args.plant c.args.readings c.accept.result c.accept.ensures.value c.accept.ensures.plant c.in_ok-accepted.was in
    rw (a.1, c.grid_counts.ensures, a.0)
