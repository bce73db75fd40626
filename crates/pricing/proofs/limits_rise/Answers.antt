-- `limits_rise` meets its contract. Assumes nothing.
use mathlib.Core.Path.{◌≡◌, refl, sym, ap, ◌∙◌}
use native.Mathlib.Omega.{arith}
use Rattle.std.proofs.lemmas.List.{length-take}
use Rattle.rules.specs.Price.{limit_before, limits_rise}
use Rattle.pricing.proofs.BandTests.{limit_next, limit_stops}
use Rattle.pricing.proofs.limits_rise.Goals as goal

pub band-init : goal.band-init
unfolding limit_before limits_rise
band-init c = (refl, refl)

pub returns-then-band-before : goal.returns-then-band-before
returns-then-band-before c = limit_stops c.args.tariff.now c.args.n c.band.band-index c.band-test.true c.band.before c.band.invariant c.if-band-before.true

pub band-preserved : goal.band-preserved
band-preserved c = limit_next c.args.tariff.now c.args.n c.band.band-index c.band-test.true c.band.before c.band.invariant c.if-band-before.false

pub returns : goal.returns
returns c =
    let all : c.band.band-index ≡ c.args.n = omega (arith, length-take c.args.n c.args.tariff.now.bands) in
    sym (ap (limits_rise c.args.tariff.now) (sym all) ∙ c.band.invariant.1)
