-- `closest` against a whole number. Assumes nothing.
use mathlib.Core.Path.{◌≡◌, refl}
use Prim.Native.Nat.{ℕ, ◌*◌, ◌/◌, ◌%◌, ◌≤◌, ◌<◌, compare, Ordering}
use native.Mathlib.Nat.{le_of_eq, le_trans, le-div_iff_mul-le, div-eq_of_lt, mod-eq_of_lt, div-one, mod-one}
use native.Mathlib.Omega.{arith, compare-eq, compare-gt}
use lib.Dec.{lit<}
use lib.Ieee.Nearest.{closest, nearest-ge, closest_mono}

compare_less : (a b : ℕ) → a < b → compare a b ≡ Ordering.lt
compare_less a b h = go (compare a b) refl
  where
    go : (o : Ordering) → compare a b ≡ o → o ≡ Ordering.lt
    go Ordering.lt e = refl
    go Ordering.eq e = absurd (omega (arith, compare-eq a b e))
    go Ordering.gt e = absurd (omega (arith, compare-gt a b e))

-- less than a half is nearest to 0
pub closest_zero : (a d : ℕ) → a * 2 < d → closest a d ≡ 0
closest_zero a d h =
    let l : a < d = omega arith in
    simp (div-eq_of_lt l, mod-eq_of_lt l, compare_less (a * 2) d h)

-- a whole number that the fraction reaches, the rounded fraction reaches
pub le_closest : (a d k : ℕ) → 0 < d → k * d ≤ a → k ≤ closest a d
le_closest a d k pos h = le_trans ((le-div_iff_mul-le pos).1 h) (nearest-ge (a / d) (compare (a % d * 2) d))

-- a whole number that the fraction does not pass, the rounded fraction does not pass
pub closest_le : (a d k : ℕ) → 0 < d → a ≤ k * d → closest a d ≤ k
closest_le a d k pos h =
    let same : closest k 1 ≡ k = simp (div-one, mod-one) in
    le_trans (closest_mono a d k 1 pos (lit< tt) (omega arith)) (le_of_eq same)
