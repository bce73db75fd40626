-- The definition's cube root is the largest whole number whose cube is at most n, and the only one: the search for a digit
-- stops where the cube of the next number is above n, and a cube is monotone. Assumes nothing.
use mathlib.Core.Path.{◌≡◌, refl}
use mathlib.Core.Bool.{Bool, true, false}
use Prim.Native.Nat.{ℕ, zero, suc, ◌+◌, ◌*◌, ◌≤◌, ◌<◌}
use native.Mathlib.Nat.{mul-le-mul, lt_of_not-le, le_antisymm}
use native.Mathlib.Omega.{arith}
use borrow.Author.Tests.{leb-true, leb-false}
use lib.Dec.{leb}
use Rattle.rules.specs.Rounding.{down}
use Rattle.rules.specs.SettlingSteps.{root_from, root_by_digits, cube_root}

-- of two numbers the one with the smaller cube is the smaller
pub cube_lt : (a b : ℕ) → a * a * a < b * b * b → a < b
cube_lt a b h = lt_of_not-le (λ l. let m : b * b * b ≤ a * a * a = mul-le-mul (mul-le-mul l l) l in omega arith)

-- c's cube is at most n, and the cube of the next number is above n
pub record Root (n c : ℕ) : Type 0 where
  pub reached : c * c * c ≤ n
  pub passed : n < (c + 1) * (c + 1) * (c + 1)

-- the search finds such a number where its steps are enough
found : (d c n : ℕ) → c * c * c ≤ n → n < (c + d + 1) * (c + d + 1) * (c + d + 1) → Root n (root_from d c n)
unfolding root_from
found zero c n reached enough = record { reached = reached; passed = omega (arith, enough) }
found (suc d) c n reached enough = step (leb ((c + 1) * (c + 1) * (c + 1)) n) refl (found d (c + 1) n)
  where
    step :
        (t : Bool) →
        leb ((c + 1) * (c + 1) * (c + 1)) n ≡ t →
        ((c + 1) * (c + 1) * (c + 1) ≤ n → n < (c + 1 + d + 1) * (c + 1 + d + 1) * (c + 1 + d + 1) → Root n (root_from d (c + 1) n)) →
        Root n (elim t [ true ↦ root_from d (c + 1) n | false ↦ c ])
    step true e next = next (leb-true _ _ e) (omega (arith, enough))
    step false e next = record { reached = reached; passed = leb-false _ _ e }

-- one digit more: ten times a root of n / 1000 is at most a root of n, and at most 9 below it
digit : (c n : ℕ) → Root (down n 1000) c → Root n (root_from 9 (10 * c) n)
digit c n root = found 9 (10 * c) n (omega (arith, root.reached)) (omega (arith, root.passed))

digits : (d n : ℕ) → n ≤ d → Root n (root_by_digits d n)
unfolding root_by_digits
digits zero n enough = record { reached = omega arith; passed = omega arith }
digits (suc d) n enough = step (leb n 0) refl (digits d (down n 1000))
  where
    step :
        (t : Bool) →
        leb n 0 ≡ t →
        (down n 1000 ≤ d → Root (down n 1000) (root_by_digits d (down n 1000))) →
        Root n (elim t [ true ↦ 0 | false ↦ root_from 9 (10 * root_by_digits d (down n 1000)) n ])
    step true e fewer = record { reached = omega arith; passed = omega (arith, leb-true n 0 e) }
    step false e fewer = digit (root_by_digits d (down n 1000)) n (fewer (omega (arith, leb-false n 0 e)))

-- a number whose cube is at most n is at most any such number
largest : (n c : ℕ) → Root n c → (k : ℕ) → k * k * k ≤ n → k ≤ c
largest n c root k h = let l : k < c + 1 = cube_lt k (c + 1) (omega (arith, root.passed)) in omega arith

-- for every n: the cube is at most n, and a whole number whose cube is at most n is at most the root
pub cube_root_lem : (n : ℕ) → (cube_root n * cube_root n * cube_root n ≤ n) × ((k : ℕ) → k * k * k ≤ n → k ≤ cube_root n)
unfolding cube_root
cube_root_lem n = let root : Root n (root_by_digits n n) = digits n n (omega arith) in (root.reached, largest n (root_by_digits n n) root)

-- the two facts determine it
pub cube_root_only : (n c : ℕ) → (c * c * c ≤ n) × ((k : ℕ) → k * k * k ≤ n → k ≤ c) → c ≡ cube_root n
cube_root_only n c h = le_antisymm ((cube_root_lem n).1 c h.0) (h.1 (cube_root n) (cube_root_lem n).0)

-- and so does n's place between two cubes
pub cube_root_at : (n c : ℕ) → Root n c → c ≡ cube_root n
cube_root_at n c root = cube_root_only n c (root.reached, largest n c root)
