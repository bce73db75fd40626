-- The rounding facts, one law for any divisor each way. Assumes nothing.
use mathlib.Core.Logic.{◌↔◌}
use Prim.Native.Nat.{ℕ, ◌+◌, ◌-◌, ◌*◌, ◌≤◌, ◌<◌, suc}
use native.Mathlib.Nat.{le-div_iff_mul-le, div-lt_iff_lt-mul, mul-le-mul_right, suc-mul}
use native.Mathlib.Omega.{arith}
use lib.Ieee.Nearest.{div_mono}
use Rattle.rules.specs.Rounding.{down, up}

-- a whole number is at most "down" exactly when its multiple is at most the dividend
pub le_down : (a d k : ℕ) → 0 < d → (k ≤ down a d) ↔ (k * d ≤ a)
le_down a d k pos = le-div_iff_mul-le pos

-- "up" is at most a whole number exactly when the dividend is at most its multiple
pub up_le : (a d k : ℕ) → 0 < d → (up a d ≤ k) ↔ (a ≤ k * d)
up_le a d k pos = (
  λ h. let l : a + (d - 1) < suc k * d = (div-lt_iff_lt-mul pos).0 (omega (arith, h)) in omega (arith, l, suc-mul k d),
  λ h. let u : up a d < suc k = (div-lt_iff_lt-mul pos).1 (omega (arith, h, suc-mul k d)) in omega arith,
)

-- "up" keeps the order of the dividends
pub up_mono : (a b d : ℕ) → 0 < d → a ≤ b → up a d ≤ up b d
up_mono a b d pos h = div_mono (a + (d - 1)) d (b + (d - 1)) d pos pos (mul-le-mul_right d (omega arith))
