-- Sums over 14 numbers while they slide on by one, and loads with 14 days before the first. Assumes nothing.
use mathlib.Core.Path.{◌≡◌, refl, ap, ap₂, ◌∙◌}
use Prim.Native.Nat.{ℕ, zero, suc, ◌+◌, ◌-◌, ◌*◌, ◌≤◌, ◌<◌}
use native.Mathlib.Numerals.{add-one}
use native.Mathlib.Omega.{arith}
use borrow.Author.Tests.{lt-ltb, le-ltb}
use Rattle.rules.specs.Sums.{sum_from}
use Rattle.rules.specs.DayLog.{higher, highest_of}
use Rattle.loads.proofs.Windows.{padded}

-- a sum slides on by one: the first summand goes, the one after the last comes
pub slide : (a n : ℕ) (g : ℕ → ℕ) → sum_from (a + 1) n g + g a ≡ sum_from a n g + g (a + n)
unfolding sum_from
slide a zero g = let e : a ≡ a + 0 = omega arith in ap (λ (j : ℕ). 0 + g j) e
slide a (suc n) g =
    let here : g (a + 1 + n) ≡ g (a + suc n) = (let e : a + 1 + n ≡ a + suc n = omega arith in ap g e) in
    omega (arith, slide a n g)

-- summands of a range that are bounded
pub sum_bounded : (a n c : ℕ) (g : ℕ → ℕ) → ((i : ℕ) → a ≤ i → i < a + n → g i ≤ c) → sum_from a n g ≤ n * c
unfolding sum_from
sum_bounded a zero c g h = omega arith
sum_bounded a (suc n) c g h = omega (arith, sum_bounded a n c g (λ i l m. h i l (omega arith)), h (a + n) (omega arith) (omega arith))

-- its first summand is at most the sum
pub first_at_most : (a n : ℕ) (g : ℕ → ℕ) → g a ≤ sum_from a (suc n) g
unfolding sum_from
first_at_most a n g = omega (arith, slide a n g)

-- before the first day there is no load, and then the days' loads
pub padded_none : (g : ℕ → ℕ) (j : ℕ) → j < 14 → padded g j ≡ 0
unfolding padded
padded_none g j h = rw (lt-ltb j 14 h)

pub padded_day : (g : ℕ → ℕ) (d : ℕ) → 1 ≤ d → padded g (d + 13) ≡ g d
unfolding padded
padded_day g d h =
    let e : d + 13 - 13 ≡ d = omega arith in
    rw (le-ltb (d + 13) 14 (omega arith), e)

-- the sum of a window that starts on a day of the log
pub padded_window : (g : ℕ → ℕ) (d n : ℕ) → 1 ≤ d → sum_from (d + 13) n (padded g) ≡ sum_from d n g
unfolding sum_from
padded_window g d zero h = refl
padded_window g d (suc n) h =
    let e : d + 13 + n ≡ d + n + 13 = omega arith in
    ap₂ ◌+◌ (padded_window g d n h) (ap (padded g) e ∙ padded_day g (d + n) (omega arith))

-- one window more
pub highest_step : (w : ℕ → ℕ) (n : ℕ) → highest_of w (n + 1) ≡ higher (highest_of w n) (w (n + 1)) (n + 1)
unfolding highest_of
highest_step w n = ap (highest_of w) (add-one n)
