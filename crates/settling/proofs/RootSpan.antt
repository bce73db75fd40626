-- How often a span of possible roots is halved, and where it has to end, on the thickening times of the grid. Assumes nothing.
use mathlib.Core.Path.{◌≡◌, refl, ap}
use mathlib.Core.Bool.{true, false}
use Prim.Native.Nat.{ℕ, zero, suc, ◌+◌, ◌-◌, ◌*◌, ◌/◌, ◌^◌, ◌≤◌, ◌<◌}
use native.Mathlib.Nat.{pow-suc}
use native.Mathlib.Omega.{arith}
use lib.Dec.{leb}
use Rattle.rules.specs.Ranges.{GridTime}
use Rattle.rules.specs.SettlingSteps.{root_from, root_by_digits, cube_root, thickening_root}

-- the lower end of a span of this width, after so many halvings
pub halved : ℕ → ℕ → ℕ → ℕ → ℕ
halved zero low width n = low
halved (suc turns) low width n =
    let middle = low + width / 2 in
    elim (leb (middle * middle * middle) n) [ true ↦ halved turns middle (width / 2) n | false ↦ halved turns low (width / 2) n ]

-- 14 halvings of 16,384 give the root of the shortest and of the longest time; 13 give the number before the shortest's
pub fourteen_halvings : (halved 14 0 16_384 2_000_000_000_000 ≡ thickening_root 20) × (halved 14 0 16_384 2_500_000_000_000 ≡ thickening_root 25)
unfolding halved thickening_root cube_root root_by_digits root_from
fourteen_halvings = (refl, refl)

pub thirteen_halvings : halved 13 0 16_384 2_000_000_000_000 + 1 ≡ thickening_root 20
unfolding halved thickening_root cube_root root_by_digits root_from
thirteen_halvings = refl

-- 16,384 is above every root of the grid
pub span_enough : (h : ℕ) → GridTime h → h * 100_000_000_000 < 16_384 * 16_384 * 16_384
span_enough h b = omega arith

-- 8,192 is not
pub span_too_low : (h : ℕ) → GridTime h → 8_192 * 8_192 * 8_192 ≤ h * 100_000_000_000
span_too_low h b = omega arith

-- with one halving more left, twice as many possible roots are left
pub halving : (left : ℕ) → 0 < left → 2 ^ left ≡ 2 * 2 ^ (left - 1)
halving left h = let e : left ≡ suc (left - 1) = omega arith in omega (arith, ap (λ m. 2 ^ m) e, pow-suc 2 (left - 1))
