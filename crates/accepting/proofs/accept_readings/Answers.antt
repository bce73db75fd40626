-- `accept_readings` meets its contract: BOD and COD converted are small enough for rule 4's products. That solids come before
-- nitrogen is spelled out; the other ways out close by search. Assumes nothing.
use Rattle.std.proofs.lemmas.Result.{err_from_is_err_and}
use Rattle.rules.specs.declared.Parameter.{Parameter}
use Rattle.accepting.proofs.Gathering.{converted_most, solids_refused}
use Rattle.accepting.proofs.accept_readings.Goals as goal

pub returns-in_err-solids : goal.returns-in_err-solids
returns-in_err-solids c =
    let p = err_from_is_err_and c.from_residual-in_err-solids.result c.from_residual-in_err-solids.ensures.1 in
    rw (p.1, p.2) (solids_refused c.args.plant.now c.args.readings _ _ _ c.in_ok-bod.ensures c.in_ok-cod.ensures c.in_err-solids.ensures)

pub ratio_refused-requires : goal.ratio_refused-requires
ratio_refused-requires c = (
  converted_most c.args.plant.now.flow c.args.plant.now.primary_settling Parameter.Bod c.args.readings.bod _ c.in_ok-bod.ensures,
  converted_most c.args.plant.now.flow c.args.plant.now.primary_settling Parameter.Cod c.args.readings.cod _ c.in_ok-cod.ensures,
)
