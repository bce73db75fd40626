-- Limits of the nitrate, of the capacity and of what is removed with it: Table 3 by computation, the rest by a product's limit. Assumes
-- nothing.
use Prim.Native.Nat.{ℕ, ◌+◌, ◌-◌, ◌*◌, ◌≤◌}
use mathlib.Core.Bool.{Bool, true, false, cond}
use lib.Dec.{leb}
use native.Mathlib.Nat.{mul-le-mul, mul-le-mul_right}
use native.Mathlib.Omega.{arith}
use Rattle.rules.specs.Rounding.{down}
use Rattle.rules.specs.Ranges.{Between, ConcentrationRanges}
use Rattle.rules.specs.Limits.{most_capacity}
use Rattle.rules.proofs.FigureBounds.{most_removes}
use Rattle.rules.specs.AgeNitrate.{nitrified, denitrified, table_capacity, risen_capacity, capacity_uptake, uptake_capacity, capacity, removes_by_bod, removes_by_cod, removes, removed_by_dose}
use Rattle.rules.specs.declared.Concentrations.{Concentrations}
use Rattle.rules.specs.declared.Process.{Process}
use Rattle.rules.specs.declared.Way.{Way}
use Rattle.cod.proofs.Limits.{removed_most}
use Rattle.reactor.proofs.EachOf.{largest}
use Rattle.reactor.proofs.Limits.{levels_off}

pub nitrified_most : (nitrogen bod : ℕ) → nitrogen ≤ 500_000 → nitrified nitrogen bod ≤ 500_000
unfolding nitrified
nitrified_most nitrogen bod h = omega arith

pub denitrified_most : (w target : ℕ) → w ≤ 500_000 → denitrified w target ≤ 500_000
unfolding denitrified
denitrified_most w target h = omega arith

pub table_capacity_most : (fraction : ℕ) → Between 200 500 fraction → table_capacity fraction ≤ 150
unfolding table_capacity
table_capacity_most fraction b = largest table_capacity 200 300 150 tt b

-- the product that the rise rounds
pub risen_product : (k n : ℕ) → k ≤ 150 → n ≤ 20 → k * (100 + (n - 12)) ≤ 16_200
risen_product k n h b =
    let raised : 100 + (n - 12) ≤ 108 = omega arith in
    mul-le-mul h raised

pub risen_capacity_most : (k n : ℕ) → k ≤ 150 → n ≤ 20 → risen_capacity k n ≤ 193
unfolding risen_capacity
risen_capacity_most k n h b = go (leb n 12)
  where
    go : (cool : Bool) → cond cool k (down (k * (100 + (n - 12))) 100) ≤ 193
    go true = omega arith
    go false = omega (arith, risen_product k n h b)

pub capacity_uptake_most : (u : ℕ) → capacity_uptake u ≤ 1_443
unfolding capacity_uptake
capacity_uptake_most u = omega (arith, levels_off 15000 883 u (omega arith))

-- the product that the uptake capacity rounds
pub uptake_product : (fraction o : ℕ) → fraction ≤ 500 → o ≤ 1_443 → 75 * fraction * o ≤ 54_112_500
uptake_product fraction o h k = omega (arith, mul-le-mul h k)

pub uptake_capacity_most : (fraction u : ℕ) → fraction ≤ 500 → uptake_capacity fraction u ≤ 193
unfolding uptake_capacity
uptake_capacity_most fraction u h = omega (arith, uptake_product fraction (capacity_uptake u) h (capacity_uptake_most u))

pub capacity_most : (process : Process) (fraction n u : ℕ) → Between 200 500 fraction → n ≤ 20 → capacity process fraction n u ≤ 193
unfolding capacity
capacity_most Process.PreAnoxic fraction n u b h = risen_capacity_most (table_capacity fraction) n (table_capacity_most fraction b) h
capacity_most Process.Simultaneous fraction n u b h = uptake_capacity_most fraction u b.most
capacity_most Process.Intermittent fraction n u b h = uptake_capacity_most fraction u b.most
capacity_most (Process.StepFeed steps) fraction n u b h = risen_capacity_most (table_capacity fraction) n (table_capacity_most fraction b) h

-- K × C is at most 193 for each part of BOD
pub removes_by_bod_most :
    (process : Process) (x : Concentrations) (fraction n u : ℕ)
    → Between 200 500 fraction
    → n ≤ 20
    → removes_by_bod process x fraction n u ≤ most_capacity * x.bod
unfolding removes_by_bod
removes_by_bod_most process x fraction n u b h = mul-le-mul_right x.bod (capacity_most process fraction n u b h)

-- in either way what is removed has one limit
pub removes_in_most :
    (way : Way) (process : Process) (x : Concentrations) (fraction n u : ℕ)
    → ConcentrationRanges x
    → Between 200 500 fraction
    → n ≤ 20
    → removes way process x fraction n u ≤ most_removes
unfolding removes removes_by_cod
removes_in_most Way.Bod process x fraction n u hx b h = omega (arith, removes_by_bod_most process x fraction n u b h, hx.bod.most)
removes_in_most Way.Cod Process.PreAnoxic x fraction n u hx b h =
    omega (arith, removes_by_bod_most Process.PreAnoxic x fraction n u b h, hx.bod.most)
removes_in_most Way.Cod Process.Simultaneous x fraction n u hx b h = removed_most fraction x.cod x.solids u b.most hx.cod.most
removes_in_most Way.Cod Process.Intermittent x fraction n u hx b h = removed_most fraction x.cod x.solids u b.most hx.cod.most
removes_in_most Way.Cod (Process.StepFeed steps) x fraction n u hx b h =
    omega (arith, removes_by_bod_most (Process.StepFeed steps) x fraction n u b h, hx.bod.most)

pub removed_by_dose_most : (dose : ℕ) → dose ≤ 500_000 → removed_by_dose dose ≤ 100_000
unfolding removed_by_dose
removed_by_dose_most dose h = omega arith
