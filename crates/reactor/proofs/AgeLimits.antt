-- Limits of the growth, the decay and the ages: what each degree does at most, and at the temperatures of a plant or a term the
-- largest value by computation; the rest is a product's limit and a rounding law. Assumes nothing.
use Prim.Native.Nat.{ℕ, zero, suc, ◌+◌, ◌-◌, ◌*◌, ◌/◌, ◌^◌, ◌≤◌, ◌<◌}
use mathlib.Core.Bool.{Bool, true, false, cond}
use mathlib.Core.Path.{◌≡◌, refl}
use borrow.Author.Tests.{leb-false}
use lib.Dec.{leb}
use native.Mathlib.Nat.{mul-le-mul, mul-le-mul_left, div-le_of_le-mul, pow-succ', pow-le-pow_right}
use native.Mathlib.Omega.{arith}
use Rattle.rules.specs.Rounding.{down}
use Rattle.rules.specs.Ranges.{Between}
use Rattle.rules.specs.AgeNitrate.{safety_factor, per_degree, growth, decay, aerobic_age, sludge_age, corrected_age}
use Rattle.rules.proofs.Quotients.{le_down, up_le}
use Rattle.reactor.proofs.EachOf.{largest, ranged}

-- each degree at most doubles
pub per_degree_most : (m d n : ℕ) → m ≤ 2 * d → per_degree m d n ≤ 1_000_000 * 2 ^ n
unfolding per_degree
per_degree_most m d zero h = omega arith
per_degree_most m d (suc n) h =
    let x : ℕ = per_degree m d n in
    let doubled : down (x * m) d ≤ 2 * x = div-le_of_le-mul d (omega (arith, mul-le-mul_left x h)) in
    omega (arith, per_degree_most m d n h, pow-succ' 2 n)

-- no degree, one degree more, and the product that a degree divides
pub per_degree_none : (m d n : ℕ) → n ≡ 0 → per_degree m d n ≡ 1_000_000
unfolding per_degree
per_degree_none m d n h = rw h

pub per_degree_more : (m d n : ℕ) → 0 < n → per_degree m d n ≡ per_degree m d (n - 1) * m / d
unfolding per_degree
per_degree_more m d zero h = absurd (omega (arith, h))
per_degree_more m d (suc n) h = let less : suc n - 1 ≡ n = omega arith in rw less

pub per_degree_fits : (m d n : ℕ) → m ≤ 2_000 → 1_000 ≤ d → n ≤ 15 → per_degree m d n * m < 2 ^ 64
per_degree_fits m d n hm hd hn =
    let power : 2 ^ n ≤ 2 ^ 15 = pow-le-pow_right (omega arith) {j = 15} hn in
    let most : per_degree m d n ≤ 1_000_000 * 2 ^ 15 = omega (arith, per_degree_most m d n (omega arith)) in
    omega (arith, mul-le-mul most hm)

pub growth_most : (n : ℕ) → 10 ≤ n → n ≤ 20 → growth n ≤ 1_633_000
unfolding growth per_degree
growth_most n l m = largest growth 10 10 1_633_000 tt (record { least = l; most = m })

-- at a term's temperatures too
pub growth_between : (n : ℕ) → Between 4 20 n → Between 1 2_942_000 (growth n)
unfolding growth per_degree
growth_between n b = ranged growth 4 16 1 2_942_000 tt b

pub decay_most : (n : ℕ) → 4 ≤ n → n ≤ 20 → decay n ≤ 1_420_000
unfolding decay per_degree
decay_most n l m = largest decay 4 16 1_420_000 tt (record { least = l; most = m })

pub safety_factor_between : (load : ℕ) → Between 145 180 (safety_factor load)
unfolding safety_factor
safety_factor_between load = go (leb load 1_200) refl (leb 6_000 load) refl
  where
    go : (low : Bool) → leb load 1_200 ≡ low → (high : Bool) → leb 6_000 load ≡ high → Between 145 180 (cond low 180 (cond high 145 (180 - down (35 * (load - 1_200)) 4_800)))
    go true e high f = omega arith
    go false e true f = omega arith
    go false e false f = let l : load < 6_000 = leb-false _ _ f in omega arith

-- the product that the aerobic age rounds
pub aerobic_product : (factor g : ℕ) → Between 145 180 factor → Between 1 2_942_000 g → Between 1 20_000_000_000 (factor * 34 * g)
aerobic_product factor g h k = record { least = omega (arith, mul-le-mul h.least k.least); most = omega (arith, mul-le-mul h.most k.most) }

pub aerobic_age_between : (factor n : ℕ) → Between 145 180 factor → Between 4 20 n → Between 1 20_000 (aerobic_age factor n)
unfolding aerobic_age
aerobic_age_between factor n h b = omega (arith, aerobic_product factor (growth n) h (growth_between n b))

pub aerobic_age_most : (factor n : ℕ) → factor ≤ 180 → Between 10 20 n → aerobic_age factor n ≤ 10_000
unfolding aerobic_age
aerobic_age_most factor n h b = omega (arith, mul-le-mul h (growth_most n b.least b.most))

pub sludge_age_between : (aerobic fraction : ℕ) → Between 1 10_000 aerobic → fraction ≤ 500 → Between 1 20_000 (sludge_age aerobic fraction)
unfolding sludge_age
sludge_age_between aerobic fraction h k =
    record {
      least = (le_down (1000 * aerobic + (1000 - fraction - 1)) (1000 - fraction) 1 (omega arith)).1 (omega arith);
      most = (up_le (1000 * aerobic) (1000 - fraction) 20_000 (omega arith)).1 (omega arith);
    }

-- the product that the corrected age rounds
pub corrected_product : (age f : ℕ) → f ≤ 1_420_000 → age * f ≤ 1_420_000 * age
corrected_product age f k = omega (arith, mul-le-mul_left age k)

pub corrected_age_most : (age n : ℕ) → Between 4 20 n → 100 * corrected_age age n ≤ 142 * age
unfolding corrected_age
corrected_age_most age n b = omega (arith, corrected_product age (decay n) (decay_most n b.least b.most))
