-- Limits of the oxygen figures, and that by BOD denitrification saves no more oxygen than carbon takes where the nitrate is
-- covered: 29 · K ≤ 5,600 for every K up to 193. Assumes nothing.
use mathlib.Core.Path.{◌≡◌}
use Prim.Native.Nat.{ℕ, ◌+◌, ◌-◌, ◌*◌, ◌≤◌}
use native.Mathlib.Nat.{mul-le-mul, mul-le-mul_left, le_trans}
use native.Mathlib.Omega.{arith}
use Rattle.rules.specs.Rounding.{up}
use Rattle.rules.specs.AerationSteps.{aeration_uptake, carbon_oxygen, denitrified_by_bod, saved_oxygen}
use Rattle.rules.specs.Limits.{most_capacity}
use Rattle.rules.specs.Ranges.{Between, GridFraction, PlantRanges}
use Rattle.rules.specs.ReactorSteps.{reactor_of}
use Rattle.rules.specs.declared.Plant.{Plant}
use Rattle.rules.specs.declared.Concentrations.{Concentrations}
use Rattle.rules.specs.declared.Way.{Way}
use Rattle.rules.proofs.Quotients.{up_le}
use Rattle.rules.proofs.Examined.{FractionKept}
use Rattle.rules.proofs.NitrateColumns.{left_covered, fraction_covered}
use Rattle.reactor.proofs.Bounds.{removes_most}

-- the specific uptake levels off below 560 + 883
pub uptake_most : (u : ℕ) → aeration_uptake u ≤ 1_443
unfolding aeration_uptake
uptake_most u = omega (arith, (up_le (15000 * u) (100000 + 17 * u) 883 (omega arith)).1 (omega arith))

-- the product that carbon's oxygen rounds
pub carbon_product : (flow bod uptake : ℕ) → flow ≤ 200_000 → bod ≤ 2_000_000 → uptake ≤ 1_443 → flow * bod * uptake ≤ 577_200_000_000_000
carbon_product flow bod uptake hf hb hu = mul-le-mul (mul-le-mul hf hb) hu

-- the product that the transfer with pauses rounds, and what it is divided by
pub paused_product : (saturation hourly : ℕ) → saturation ≤ 15_000 → hourly ≤ 164_000_000 → 1000 * saturation * hourly ≤ 2_460_000_000_000_000
paused_product saturation hourly hs hh = omega (arith, mul-le-mul hs hh)

pub paused_divisor : (saturation fraction : ℕ) → Between 6_000 15_000 saturation → GridFraction fraction → Between 2_000_000 10_400_000 ((saturation - 2_000) * (1000 - fraction))
paused_divisor saturation fraction s f =
    let least_deficit : 4_000 ≤ saturation - 2_000 = omega arith in
    let most_deficit : saturation - 2_000 ≤ 13_000 = omega arith in
    let least_part : 500 ≤ 1000 - fraction = omega arith in
    let most_part : 1000 - fraction ≤ 800 = omega arith in
    record { least = mul-le-mul least_deficit least_part; most = mul-le-mul most_deficit most_part }

-- where the tank's BOD covers a nitrate, the oxygen saved on it is at most carbon's, so that nothing is cut off
saved_at_most : (flow bod uptake removes d : ℕ) → 560 ≤ uptake → removes ≤ most_capacity * bod → 1000 * d ≤ removes → saved_oxygen flow d ≤ carbon_oxygen flow bod uptake
unfolding saved_oxygen carbon_oxygen
saved_at_most flow bod uptake removes d hu hk cover =
    let removed : flow * (1000 * d) ≤ flow * (193 * bod) = mul-le-mul_left flow (le_trans cover hk) in
    let taken : flow * bod * 560 ≤ flow * bod * uptake = mul-le-mul_left (flow * bod) hu in
    omega arith

-- the same by BOD of every fraction of the grid that keeps its rules, with plant data in range, whatever the dose
pub saved_at_most_carbon :
    (p : Plant) (x : Concentrations) (f u : ℕ)
    → p.way ≡ Way.Bod
    → PlantRanges p
    → GridFraction f
    → FractionKept p x f
    → saved_oxygen p.flow (denitrified_by_bod (reactor_of p x f).denitrified (reactor_of p x f).removed_by_dose)
    ≤ carbon_oxygen p.flow x.bod (aeration_uptake u)
unfolding aeration_uptake denitrified_by_bod
saved_at_most_carbon p x f u bod hp hf kept =
    saved_at_most p.flow x.bod (560 + up (15000 * u) (100000 + 17 * u)) (reactor_of p x f).removes _ (omega arith)
    (removes_most p x f bod hp hf)
    (left_covered (reactor_of p x f).removes (reactor_of p x f).removed_by_dose (reactor_of p x f).denitrified (fraction_covered p x f kept))
