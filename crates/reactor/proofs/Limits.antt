-- The decay and uptake quotients level off as the age grows. Assumes nothing.
use Prim.Native.Nat.{ℕ, ◌+◌, ◌*◌, ◌≤◌}
use native.Mathlib.Nat.{mul-le-mul_right, div-le_of_le-mul}
use native.Mathlib.Omega.{arith}
use Rattle.rules.specs.Rounding.{down}

pub levels_off : (m most u : ℕ) → m ≤ 17 * most → down (m * u) (100000 + 17 * u) ≤ most
levels_off m most u h = div-le_of_le-mul (100000 + 17 * u) (omega (arith, mul-le-mul_right u h))
