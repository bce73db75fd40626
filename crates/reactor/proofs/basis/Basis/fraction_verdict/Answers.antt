-- `Basis::fraction_verdict` meets its contract: the cover is asked for the nitrate to denitrify. Assumes nothing.
use Rattle.std.proofs.Common.{◌≡◌, arith}
use Rattle.std.proofs.lemmas.Grind.{common_steps}
use Rattle.rules.specs.AgeNitrate.{covered}
use Rattle.reactor.proofs.basis.Basis.fraction_verdict.Goals as goal

pub returns-in_err-rule : goal.returns-in_err-rule
returns-in_err-rule c =
    let r = c.args.reactor.now in
    let cover : c.covered-covered.result ≡ covered r.removes r.removed_by_dose r.denitrified = c.covered-covered.ensures in
    grind (arith, common_steps)
