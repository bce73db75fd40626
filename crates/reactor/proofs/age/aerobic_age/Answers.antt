-- `aerobic_age` meets its contract: 3.4 days, with the safety factor and the growth at the temperature. Assumes nothing.
use Rattle.std.proofs.Common.{rules, ◌≡◌, refl}
use Rattle.rules.specs.AgeNitrate.{aerobic_age}
use Rattle.reactor.proofs.age.aerobic_age.Goals as goal

pub returns : goal.returns
unfolding aerobic_age
returns c =
    let age : c.new.result ≡ aerobic_age c.args.factor c.args.temperature = rw (c.new.ensures, c.round_up.ensures, c.growth.ensures.0, c.get.ensures.0) refl in
    (age, search rules)
