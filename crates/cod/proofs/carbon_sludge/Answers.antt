-- `carbon_sludge` meets its contract: the inert soluble COD is rounded down. Assumes nothing.
use Rattle.std.proofs.Common.{◌≡◌, false, arith}
use Rattle.std.proofs.lemmas.Grind.{common_steps}
use Rattle.rules.specs.CodBalance.{inert_soluble, carbon_sludge_by_cod, inorganic_solids}
use Rattle.cod.proofs.carbon_sludge.Goals as goal

pub returns : goal.returns
unfolding carbon_sludge_by_cod inorganic_solids
returns c =
    let less : c.inert_soluble-soluble.result ≡ inert_soluble false c.args.accepted.now.concentrations.cod = c.inert_soluble-soluble.ensures.0 in
    grind (arith, common_steps)
