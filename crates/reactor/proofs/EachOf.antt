-- A limit that antt computes at every number of a short range holds at each of them. Assumes nothing.
use Prim.Native.Nat.{ℕ, zero, suc, ◌+◌, ◌≤◌, ◌<◌}
use mathlib.Core.Path.{◌≡◌, refl, sym, subst}
use mathlib.Core.Bool.{Bool, true, false, ◌&&◌}
use lib.Dec.{T, leb, leb→le, eqb}
use Rattle.rules.specs.PlantData.{within}
use Rattle.rules.proofs.Tests.{within_between}
use lib.Ieee.Fits.{and_l, and_r}
use borrow.Author.Tests.{eqb-true, eqb-false}
use native.Mathlib.Omega.{arith}
use Rattle.rules.specs.Ranges.{Between}

-- the test passes at `count` numbers from `low` on
abbrev pub each : (ℕ → Bool) → ℕ → ℕ → Bool
each test low zero = true
each test low (suc count) = test (low + count) && each test low count

pub one_of : (test : ℕ → Bool) (low count n : ℕ) → T (each test low count) → low ≤ n → n < low + count → T (test n)
one_of test low zero n t least most = absurd (omega arith)
one_of test low (suc count) n t least most =
    go (eqb n (low + count)) refl (one_of test low count n (and_r (test (low + count)) (each test low count) t) least)
  where
    go : (b : Bool) → eqb n (low + count) ≡ b → (n < low + count → T (test n)) → T (test n)
    go true e rest =
        subst (λ (k : ℕ). T (test k)) (sym (eqb-true n (low + count) e)) (and_l (test (low + count)) (each test low count) t)
    go false e rest =
        rest
        (let other : n ≡ low + count → ⊥ = eqb-false n (low + count) e in
        omega arith)

-- a function's largest value in the range of `low` and the `more` numbers after it
pub largest :
    (f : ℕ → ℕ) (low more most : ℕ) →
    T (each (λ k. leb (f k) most) low (suc more)) → {n : ℕ} → Between low (low + more) n → f n ≤ most
largest f low more most t {n} b = leb→le (f n) most (one_of (λ k. leb (f k) most) low (suc more) n t b.least (omega arith))

-- a function's least and largest value there
pub ranged :
    (f : ℕ → ℕ) (low more least most : ℕ) →
    T (each (λ k. within least most (f k)) low (suc more)) → {n : ℕ} → Between low (low + more) n → Between least most (f n)
ranged f low more least most t {n} b =
    (within_between least most (f n)).0 (one_of (λ k. within least most (f k)) low (suc more) n t b.least (omega arith))
