-- `removed_by_oxygen` meets its contract: the oxygen is the one rounded up. Assumes nothing.
use Rattle.std.proofs.Common.{◌≡◌, true, refl}
use Rattle.rules.specs.CodBalance.{oxygen_by_cod, removed_by_oxygen}
use Rattle.cod.proofs.removed_by_oxygen.Goals as goal

pub returns : goal.returns
unfolding removed_by_oxygen
returns c =
    let x = c.args.accepted.now.concentrations in
    let less : c.oxygen-oxygen.result ≡ oxygen_by_cod true x.cod x.solids c.args.corrected = c.oxygen-oxygen.ensures.0 in
    rw (c.new.ensures, c.get.ensures.0, less) refl
