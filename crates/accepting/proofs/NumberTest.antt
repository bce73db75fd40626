-- The two f32 comparisons, with zero and with infinity, pass exactly the numbers of rule 2. Assumes nothing.
use mathlib.Core.Path.{◌≡◌, refl}
use mathlib.Core.Bool.{true, false, not, ◌&&◌, ◌||◌, true≢false}
use Prim.Native.Nat.{ℕ, zero, suc, ◌*◌, ◌<◌}
use native.Mathlib.Nat.{zero-mul, mul-one, mul-pos, zero-lt-suc}
use native.Mathlib.Omega.{arith}
use borrow.Author.Tests.{lt-ltb, ne_eqb}
use lib.Dec.{T, ltb, eqb}
use lib.Ieee.{Float, nan, inf, fin, binary32, up, down, of_bits, lt, eq, le, is_nan}
use lib.Ieee.Fits.{up_pos}
use Rattle.std.proofs.lemmas.Bool.Decides.{nat_tests}
use Rattle.rules.specs.LabReadings.{no_number}

-- zero is at most any whole number
zero_at_most : (n : ℕ) → (ltb 0 n || (eqb 0 n && true)) ≡ true
zero_at_most n = grind (arith, nat_tests)

pub number_test : (x : Float) → not (le (of_bits binary32 0) x && lt x (of_bits binary32 0x7f80_0000)) ≡ no_number x
unfolding le lt eq of_bits no_number
number_test nan = refl
number_test (inf true) = refl
number_test (inf false) = refl
number_test (fin false m e) = simp (zero-mul (down e), zero_at_most (m * up e * 1))
number_test (fin true zero e) = simp (zero-mul (down e), zero-mul (up e))
number_test (fin true (suc m) e) =
    let above : 0 < suc m * up e = mul-pos (zero-lt-suc m) (up_pos e) in
    simp (zero-mul (down e), mul-one, lt-ltb 0 (suc m) (zero-lt-suc m), ne_eqb 0 (suc m * up e) (omega arith))

-- what passes is no NaN
pub number_no_nan : (x : Float) → no_number x ≡ false → T (not (is_nan x))
unfolding no_number is_nan
number_no_nan nan e = true≢false e
number_no_nan (inf s) e = tt
number_no_nan (fin s m e) h = tt
