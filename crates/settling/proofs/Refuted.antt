-- Mistakes told apart from the definitions: each gives another figure, by computation on Case A's tank (E 3,779, V 378,
-- q 1,322, B 12,599 at r 75 and h 20). Assumes nothing.
use mathlib.Core.Path.{◌≡◌, refl}
use Prim.Native.Nat.{ℕ, ◌+◌, ◌-◌, ◌*◌, min, max}
use native.Mathlib.Omega.{arith}
use borrow.Author.Tests.{eqb-false}
use Rattle.rules.specs.Rounding.{down, up}
use Rattle.rules.specs.ReactorSteps.{reactor_solids}
use Rattle.rules.specs.SettlingSteps.{root_from, root_by_digits, cube_root, thickening_root, bottom_sludge, return_share, return_sludge, mixed_solids, diluted_volume, volume_loading, largest_overflow_rate, surface_overflow_rate, settling_surface, settling_depth, settling_volume, settling_of}
use Rattle.rules.specs.Cases.{variant, case_a}
use Rattle.rules.specs.declared.Process.{Process}
use Rattle.rules.specs.declared.Steps.{Steps}
use Rattle.rules.specs.declared.TankFlow.{TankFlow}

-- V rounded down
pub volume_down : diluted_volume 3_779 100 ≡ down (3_779 * 100) 1000 → ⊥
unfolding diluted_volume
volume_down e = omega arith

-- V from the solids that the reactor is sized with
pub volume_of_reactor : diluted_volume 3_779 100 ≡ diluted_volume (reactor_solids (Process.StepFeed Steps.Two) 3_779) 100 → ⊥
unfolding diluted_volume reactor_solids
volume_of_reactor e = omega arith

-- q rounded up
pub rate_up : surface_overflow_rate TankFlow.Horizontal 378 ≡ min (up (1000 * 500) 378) 1_600 → ⊥
unfolding surface_overflow_rate volume_loading largest_overflow_rate
rate_up e = omega arith

-- A rounded down
pub surface_down : settling_surface 600 1_322 ≡ down (1000 * 600) 1_322 → ⊥
unfolding settling_surface
surface_down e = omega arith

-- the depth of Case A with a rounding of its own for each part: separation, q · V, storage, thickening
pub depth_rounded : (ℕ → ℕ → ℕ) → (ℕ → ℕ → ℕ) → (ℕ → ℕ → ℕ) → (ℕ → ℕ → ℕ) → ℕ
depth_rounded a b c d =
    max
    3_000
    (500
    + a (5 * 1_322 * 175) (1000 - 378)
    + c (9 * b (1_322 * 378) 1000 * 175) 1000
    + d (3_779 * 1_322 * 175 * 20) (1000 * 12_599))

-- one part rounded down
pub depth_down :
    (settling_depth 1_322 75 378 3_779 20 12_599 ≡ depth_rounded down up up up → ⊥)
    × (settling_depth 1_322 75 378 3_779 20 12_599 ≡ depth_rounded up down up up → ⊥)
    × (settling_depth 1_322 75 378 3_779 20 12_599 ≡ depth_rounded up up down up → ⊥)
    × (settling_depth 1_322 75 378 3_779 20 12_599 ≡ depth_rounded up up up down → ⊥)
unfolding settling_depth depth_rounded
depth_down = (λ e. omega arith, λ e. omega arith, λ e. omega arith, λ e. omega arith)

-- q · V kept at 500 where q is held at m: Case A at r 50, with q 1,600, V 294 and E 2,939
pub loading_kept :
    (settling_of case_a 50 20).depth
    ≡ max
    3_000
    (500
    + up (5 * 1_600 * 150) (1000 - 294)
    + up (9 * 500 * 150) 1000
    + up (2_939 * 1_600 * 150 * 20) (1000 * 12_599))
    → ⊥
unfolding
    case_a
    variant
    settling_of
    root_from
    root_by_digits
    cube_root
    thickening_root
    bottom_sludge
    return_share
    return_sludge
    mixed_solids
    diluted_volume
    volume_loading
    largest_overflow_rate
    surface_overflow_rate
    settling_surface
    settling_depth
    settling_volume
loading_kept e = omega arith

-- The bottom sludge with four digits of the root: Case A's B at h 20 is 12,599. The root with three digits gives a tenth of it; a
-- root cut to three digits before the division by I gives 12,590; and a root one too small, at the shortest and at the longest
-- time, is not the root.
pub record WrongBottoms : Type 0 where
  pub right : bottom_sludge (thickening_root 20) 100 ≡ 12_599
  pub three_digit_root : bottom_sludge (cube_root (20 * 100_000_000)) 100 ≡ 1_259
  pub cut_before_division : down (1000 * down (thickening_root 20) 10) 100 ≡ 12_590
  pub one_too_small_at_20 : thickening_root 20 ≡ 12_598 → ⊥
  pub one_too_small_at_25 : thickening_root 25 ≡ 13_571 → ⊥

pub wrong_bottoms : WrongBottoms
unfolding bottom_sludge thickening_root cube_root root_by_digits root_from
wrong_bottoms =
    record {
      right = refl;
      three_digit_root = refl;
      cut_before_division = refl;
      one_too_small_at_20 = eqb-false 12_599 12_598 refl;
      one_too_small_at_25 = eqb-false 13_572 13_571 refl;
    }
