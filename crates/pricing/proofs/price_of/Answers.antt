-- `price_of` meets its contract: the two volumes' prices, and the surcharge on their sum, fit. Assumes nothing.
use mathlib.Core.Path.{◌≡◌, refl}
use Prim.Native.Nat.{◌≤◌, ◌*◌, ◌+◌}
use native.Mathlib.Nat.{mul-le-mul}
use native.Mathlib.Omega.{arith}
use Rattle.rules.specs.Limits.{most_surcharge}
use Rattle.rules.specs.Rounding.{up}
use Rattle.rules.specs.Price.{tanks_price, price_of}
use Rattle.rules.proofs.Quotients.{up_le}
use Rattle.rules.proofs.PriceLaws.{valid_tariff}
use Rattle.pricing.proofs.price_of.Goals as goal

-- the sum before surcharge, at the largest surcharge
product : (c : goal.After-from) → (c.volume_price-reactor.result + c.volume_price-settling.result) * c.from.result ≤ 42_000_000_000_000 * most_surcharge
product c =
    let sum : c.volume_price-reactor.result + c.volume_price-settling.result ≤ 42_000_000_000_000 = omega arith in
    let surcharge : c.from.result ≤ most_surcharge = omega (arith, (valid_tariff c.args.tariff.now c.requires.0).surcharge) in
    mul-le-mul sum surcharge

pub overflow_mul-thousandths : goal.overflow_mul-thousandths
overflow_mul-thousandths c = omega (arith, product c)

pub round_up-requires : goal.round_up-requires
round_up-requires c = (omega arith, omega (arith, product c))

pub overflow_add-result : goal.overflow_add-result
overflow_add-result c =
    let sum = c.volume_price-reactor.result + c.volume_price-settling.result in
    let extra = (up_le (sum * c.from.result) 1000 21_000_000_000_000 (omega arith)).1 (omega (arith, product c.before)) in
    omega (arith, extra)

pub returns : goal.returns
unfolding tanks_price price_of
returns c =
    let extra : c.round_up.result ≡ up ((c.volume_price-reactor.result + c.volume_price-settling.result) * c.args.tariff.now.surcharge) 1000 =
    rw (c.round_up.ensures, c.from.ensures) refl in
    rw (extra, c.volume_price-settling.ensures.0, c.volume_price-reactor.ensures.0)
