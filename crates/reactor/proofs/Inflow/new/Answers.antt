-- `Inflow::new` meets its contract: what is to denitrify is what is above the nitrate target. Assumes nothing.
use Rattle.std.proofs.Common.{◌≡◌, arith, refl}
use Rattle.std.proofs.lemmas.Grind.{common_steps}
use Rattle.rules.specs.AgeNitrate.{denitrified}
use Rattle.reactor.specs.Seasons.{inflow_of}
use Rattle.reactor.proofs.Inflow.new.Goals as goal

pub returns : goal.returns
unfolding inflow_of
returns c =
    let above : c.denitrified.result ≡ denitrified c.nitrified-nitrified.result c.args.accepted.now.plant.nitrate_target = rw (c.denitrified.ensures, c.from.ensures) refl in
    grind (arith, common_steps)
