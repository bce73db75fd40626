-- `choose` meets its contract: a refusal of the data stands, and of accepted data the least design is chosen. Assumes nothing.
use Rattle.std.proofs.lemmas.Result.{err_from_is_err_and}
use Rattle.rules.proofs.NitrateColumns.{chosen_columns}
use Rattle.rules.specs.Choosing.{Chosen}
use Rattle.choosing.proofs.choose.Goals as goal

pub returns-in_err-accepted : goal.returns-in_err-accepted
returns-in_err-accepted c =
    let p = err_from_is_err_and c.from_residual.result c.from_residual.ensures.1 in
    let chosen : Chosen c.args.plant c.args.readings c.from_residual.result = rw (← c.in_err-accepted.ensures.value, p.1, p.2) in
    record { chosen = chosen; columns = chosen_columns c.args.plant c.args.readings c.from_residual.result chosen }

pub returns : goal.returns
returns c =
    let chosen : Chosen c.args.plant c.args.readings c.choose_accepted.result =
    rw (← c.in_ok-accepted.ensures.value) (rw c.in_ok-accepted.ensures.plant at c.choose_accepted.ensures) in
    record { chosen = chosen; columns = chosen_columns c.args.plant c.args.readings c.choose_accepted.result chosen }
