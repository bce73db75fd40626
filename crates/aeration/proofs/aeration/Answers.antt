-- `aeration` meets its contract: each figure is its call's result, of the plant's own data. Assumes nothing.
use Rattle.std.proofs.Common.{◌≡◌, ◌-◌, refl}
use Rattle.rules.specs.AgeNitrate.{corrected_age}
use Rattle.rules.specs.AerationSteps.{carbon_oxygen_in, nitrification_oxygen, denitrified_by_bod, saved_oxygen, hourly_oxygen, aeration_by, aeration_saving, aeration_of}
use Rattle.aeration.proofs.aeration.Goals as goal

pub returns : goal.returns
unfolding aeration_of aeration_saving aeration_by
returns c =
    let p = c.args.accepted.now.plant in
    let r = c.args.reactor.now in
    let carbon : c.carbon_oxygen_in-carbon.result ≡ carbon_oxygen_in p.way p.flow c.args.accepted.now.concentrations (corrected_age r.age p.aeration_temperature) =
    rw (c.carbon_oxygen_in-carbon.ensures, c.corrected_age-corrected.ensures.value, c.get.ensures.0, c.new-temperature.ensures, c.from.ensures) refl in
    let net : c.net_carbon-net.result ≡ c.carbon_oxygen_in-carbon.result - saved_oxygen p.flow (denitrified_by_bod r.denitrified r.removed_by_dose) =
    rw (c.net_carbon-net.ensures, c.denitrified_by_bod-own.ensures) refl in
    let nitrification : c.nitrification_oxygen-nitrification.result ≡ nitrification_oxygen p.flow r.nitrified =
    rw c.nitrification_oxygen-nitrification.ensures refl in
    let oxygen : c.hourly_oxygen-oxygen.result ≡ hourly_oxygen c.net_carbon-net.result c.nitrification_oxygen-nitrification.result p.carbon_peak p.nitrogen_peak =
    rw c.hourly_oxygen-oxygen.ensures refl in
    rw (c.transfer.ensures, c.recirculated.ensures, c.get-2.ensures.0, oxygen, nitrification, net, carbon) refl
