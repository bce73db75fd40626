-- `volume_price` meets its contract: by bands the price is that by single cubic metres. Assumes nothing.
use mathlib.Core.Path.{◌≡◌, refl, ap, ◌∙◌}
use Prim.Native.Nat.{◌*◌, ◌≤◌}
use native.Mathlib.Nat.{mul-le-mul}
use native.Mathlib.Omega.{arith}
use Rattle.rules.specs.Limits.{most_price, most_reactor}
use Rattle.rules.proofs.PriceLaws.{valid_tariff}
use Rattle.pricing.specs.Bands.{charged_by, cost_by}
use Rattle.pricing.proofs.Charging.{passed, by_bands, volume_most, next}
use Rattle.pricing.proofs.volume_price.Goals as goal

pub band-init : goal.band-init
unfolding charged_by cost_by
band-init c = (refl, refl)

pub bounds-tariff-k : goal.bounds-tariff-k
bounds-tariff-k c = omega (arith, (valid_tariff c.args.tariff.now c.requires.0).most)

-- a band's metres cost at most the largest reactor at the largest price
product : (c : goal.After-from-in-band) → c.saturating_sub-metres.result * c.from-in-band.result ≤ most_reactor * most_price
product c =
    let valid = valid_tariff c.args.tariff.now c.requires.0 in
    let price : c.from-in-band.result ≤ most_price = rw c.from-in-band.ensures (valid.prices c.band.k c.band-test.true) in
    let metres : c.saturating_sub-metres.result ≤ most_reactor = omega arith in
    mul-le-mul metres price

pub overflow_mul-cost : goal.overflow_mul-cost
overflow_mul-cost c = omega (arith, product c)

pub overflow_add-cost : goal.overflow_add-cost
overflow_add-cost c =
    let most = passed c.args.tariff.now c.args.volume c.band.k (valid_tariff c.args.tariff.now c.requires.0) (omega arith) in
    omega (arith, product c, most.1)

pub band-preserved : goal.band-preserved
band-preserved c =
    next c.args.tariff.now c.args.volume c.band.k c.band.charged c.band.cost _ _ _ _ c.band.invariant c.from.ensures c.from-in-band.ensures c.charge_end-end.ensures.0 c.saturating_sub-metres.ensures

pub returns : goal.returns
returns c =
    let t = c.args.tariff.now in
    let valid = valid_tariff t c.requires.0 in
    let last : c.band.k ≡ t.count = omega arith in
    let price = c.band.invariant.1 ∙ (ap (cost_by t c.args.volume) last ∙ by_bands t c.args.volume valid.least) in
    (price, rw price (volume_most t c.args.volume valid))
