-- In the way by BOD the cover of the nitrate is upward closed in the fraction: only K × C depends on it, and each step to K keeps the
-- order. Assumes nothing.
use Prim.Native.Nat.{ℕ, ◌+◌, ◌-◌, ◌*◌, ◌≤◌, ◌<◌, min}
use mathlib.Core.Bool.{Bool, true, false, cond}
use mathlib.Core.Path.{◌≡◌, refl}
use borrow.Author.Tests.{leb-true, leb-false}
use lib.Dec.{T, leb, leb→le, le→leb}
use native.Mathlib.Nat.{le_refl, mul-le-mul, mul-le-mul_left, mul-le-mul_right, mul-sub, div-lt_iff_lt-mul}
use native.Mathlib.Omega.{arith}
use Rattle.rules.specs.Rounding.{down, up}
use Rattle.rules.specs.AgeNitrate.{safety_factor, decay, aerobic_age, sludge_age, corrected_age, table_capacity, risen_capacity, capacity_uptake, uptake_capacity, capacity, removes_by_bod, removes, covered}
use Rattle.rules.specs.ReactorSteps.{reactor_by, reactor_dosed, reactor_of}
use Rattle.rules.specs.declared.Plant.{Plant}
use Rattle.rules.specs.declared.Concentrations.{Concentrations}
use Rattle.rules.specs.declared.Process.{Process}
use Rattle.rules.specs.declared.Way.{Way}
use Rattle.rules.proofs.Quotients.{le_down, up_le}
use Rattle.rules.proofs.NitrateColumns.{Covered}

-- Table 3's figure is the lower of two lines, the last two pieces being one
table_lines : (f : ℕ) → table_capacity f ≡ min (110 + down (20 * (f - 200)) 100) (130 + down (10 * (f - 300)) 100)
unfolding table_capacity
table_lines f = go (leb f 300) refl (leb f 400) refl
  where
    go :
        (low : Bool) → leb f 300 ≡ low
        → (middle : Bool) → leb f 400 ≡ middle
        → cond low (110 + down (20 * (f - 200)) 100) (cond middle (130 + down (10 * (f - 300)) 100) (140 + down (10 * (f - 400)) 100))
        ≡ min (110 + down (20 * (f - 200)) 100) (130 + down (10 * (f - 300)) 100)
    go true e middle m = omega (arith, leb-true f 300 e)
    go false e true m = omega (arith, leb-false f 300 e)
    go false e false m = omega (arith, leb-false f 400 m)

-- so it grows with the fraction
table_mono : (f g : ℕ) → f ≤ g → table_capacity f ≤ table_capacity g
table_mono f g h = rw (table_lines f, table_lines g) (omega arith)

-- its rise keeps the order
risen_mono : (k l n : ℕ) → k ≤ l → risen_capacity k n ≤ risen_capacity l n
unfolding risen_capacity
risen_mono k l n h = go (leb n 12)
  where
    go : (cool : Bool) → cond cool k (down (k * (100 + (n - 12))) 100) ≤ cond cool l (down (l * (100 + (n - 12))) 100)
    go true = h
    go false = omega (arith, mul-le-mul_right (100 + (n - 12)) h)

-- the sludge age grows with the fraction
age_mono : (a f g : ℕ) → g < 1000 → f ≤ g → sludge_age a f ≤ sludge_age a g
unfolding sludge_age
age_mono a f g below h =
    let t : ℕ = up (1000 * a) (1000 - g) in
    let whole : 1000 * a ≤ t * (1000 - g) = (up_le (1000 * a) (1000 - g) t (omega arith)).0 (le_refl t) in
    let wider : 1000 - g ≤ 1000 - f = omega arith in
    (up_le (1000 * a) (1000 - f) t (omega arith)).1 (omega (arith, mul-le-mul_left t wider))

-- the corrected age grows with the age
corrected_mono : (s t n : ℕ) → s ≤ t → corrected_age s n ≤ corrected_age t n
unfolding corrected_age
corrected_mono s t n h = omega (arith, mul-le-mul_right (decay n) h)

-- the oxygen uptake grows with the corrected age: its quotient k has 17k ≤ 15000, so that what
-- more age adds to the divisor is covered by what it adds to the dividend
uptake_mono : (u v : ℕ) → u ≤ v → capacity_uptake u ≤ capacity_uptake v
unfolding capacity_uptake
uptake_mono u v h =
    let k : ℕ = down (15000 * u) (100000 + 17 * u) in
    let whole : k * (100000 + 17 * u) ≤ 15000 * u = (le_down (15000 * u) (100000 + 17 * u) k (omega arith)).0 (le_refl k) in
    let small : k < 883 = (div-lt_iff_lt-mul {k = 100000 + 17 * u} (omega arith)).1 (omega arith) in
    let most : k ≤ 882 = omega arith in
    let later : k * (100000 + 17 * v) ≤ 15000 * v = omega (arith, mul-le-mul_right (v - u) most, mul-sub k v u) in
    omega (arith, (le_down (15000 * v) (100000 + 17 * v) k (omega arith)).1 later)

-- a process that denitrifies by its oxygen uptake: the capacity grows with the fraction and the corrected age
uptake_capacity_mono : (f g u v : ℕ) → f ≤ g → u ≤ v → uptake_capacity f u ≤ uptake_capacity g v
unfolding uptake_capacity
uptake_capacity_mono f g u v h k = omega (arith, mul-le-mul h (uptake_mono u v k))

-- K grows with the fraction and the corrected age
capacity_mono : (process : Process) (n f g u v : ℕ) → f ≤ g → u ≤ v → capacity process f n u ≤ capacity process g n v
unfolding capacity
capacity_mono Process.PreAnoxic n f g u v h k = risen_mono (table_capacity f) (table_capacity g) n (table_mono f g h)
capacity_mono Process.Simultaneous n f g u v h k = uptake_capacity_mono f g u v h k
capacity_mono Process.Intermittent n f g u v h k = uptake_capacity_mono f g u v h k
capacity_mono (Process.StepFeed steps) n f g u v h k = risen_mono (table_capacity f) (table_capacity g) n (table_mono f g h)

-- K × C in the way by BOD grows with the fraction
removes_mono :
    (p : Plant) (x : Concentrations) (f g : ℕ)
    → p.way ≡ Way.Bod
    → g < 1000
    → f ≤ g
    → (reactor_of p x f).removes ≤ (reactor_of p x g).removes
unfolding reactor_of reactor_dosed reactor_by removes removes_by_bod
removes_mono p x f g bod below h =
    let n = p.design_temperature in
    let a = aerobic_age (safety_factor p.load) n in
    let s = sludge_age a f in
    let t = sludge_age a g in
    let older = corrected_mono s t n (age_mono a f g below h) in
    rw bod (mul-le-mul_right x.bod (capacity_mono p.process n f g (corrected_age s n) (corrected_age t n) h older))

-- more that is removed covers what less covers
more_covers : (m n by_dose d : ℕ) → m ≤ n → T (covered m by_dose d) → T (covered n by_dose d)
unfolding covered
more_covers m n by_dose d h t =
    let c : 1000 * d ≤ m + 1000 * by_dose = leb→le (1000 * d) (m + 1000 * by_dose) t in
    le→leb (1000 * d) (n + 1000 * by_dose) (omega arith)

-- In the way by BOD: where the nitrate is covered at a fraction, it is at every larger one, on the grid and beyond it.
pub upward_by_bod :
    (p : Plant) (x : Concentrations) (f g : ℕ) → p.way ≡ Way.Bod → g < 1000 → f ≤ g → Covered p x f → Covered p x g
unfolding reactor_of reactor_dosed reactor_by
upward_by_bod p x f g bod below h c =
    let r = reactor_of p x g in
    more_covers (reactor_of p x f).removes r.removes r.removed_by_dose r.denitrified (removes_mono p x f g bod below h) c
