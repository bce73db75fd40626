-- `carbon_oxygen` meets its contract: the oxygen is the one rounded down. Assumes nothing.
use Rattle.std.proofs.Common.{◌≡◌, false, refl}
use Rattle.rules.specs.CodBalance.{oxygen_by_cod, carbon_oxygen_by_cod}
use Rattle.cod.proofs.carbon_oxygen.Goals as goal

pub returns : goal.returns
unfolding carbon_oxygen_by_cod
returns c =
    let x = c.args.accepted.now.concentrations in
    let more : c.oxygen.result ≡ oxygen_by_cod false x.cod x.solids c.args.corrected = c.oxygen.ensures.0 in
    rw (c.new.ensures, c.round_up.ensures, c.from-flow.ensures, more) refl
