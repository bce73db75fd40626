-- A numeral is the last digits of its number, as many as it has: so they are written, from the last to the first. How many it has,
-- the powers of ten around the number say. Assumes nothing.
use mathlib.Core.Path.{◌≡◌, refl}
use mathlib.Core.List.{List, [], ◌∷◌, ◌++◌}
use Prim.Native.Nat.{ℕ, zero, suc, ◌+◌, ◌-◌, ◌*◌, ◌/◌, ◌%◌, ◌^◌, ◌≤◌, ◌<◌}
use native.Mathlib.Nat.{pow-suc}
use native.Mathlib.Omega.{arith}
use lib.ListN.{length, set, length-append}
use lib.Seq.{sets}
use Rattle.rules.specs.Listing.{numeral}
use Rattle.rules.proofs.Numeral.{along_numeral, length_one, length_more}
use Rattle.listing.proofs.Page.{sets_last}

-- the last k digits of n, zeros in front where it has fewer
unfoldable pub last_digits : ℕ → ℕ → List ℕ
last_digits zero n = []
last_digits (suc k) n = last_digits k (n / 10) ++ ((48 + n % 10) ∷ [])

length-last_digits : (k n : ℕ) → length (last_digits k n) ≡ k
unfolding last_digits
length-last_digits zero n = refl
length-last_digits (suc k) n = rw (length-append, length-last_digits k (n / 10)) (omega arith)

pub numeral_last_digits : (n : ℕ) → numeral n ≡ last_digits (length (numeral n)) n
unfolding last_digits
numeral_last_digits =
    along_numeral (λ n l. l ≡ last_digits (length l) n)
    (λ n small. let e : n % 10 ≡ n = omega arith in rw e)
    (λ n l large same. let e : length (l ++ ((48 + n % 10) ∷ [])) ≡ suc (length l) = simp length-append (omega arith) in rw (e, ← same))

-- one more digit, before those that are written
pub digit_written :
    (p : List ℕ) (at place n : ℕ) → at < place
    → sets (set p (place - 1) (48 + n % 10)) at (last_digits (place - 1 - at) (n / 10)) ≡ sets p at (last_digits (place - at) n)
unfolding last_digits
digit_written p at place n h =
    let f : place - at ≡ suc (place - 1 - at) = omega arith in
    rw f (sets_last (last_digits (place - 1 - at) (n / 10)) p at (place - 1) (48 + n % 10) (omega (arith, length-last_digits (place - 1 - at) (n / 10))))

-- from 10 to the power k on, and below ten times that, a numeral has k + 1 digits
pub length_by_power : (k n : ℕ) → 10 ^ k ≤ n → n < 10 * 10 ^ k → length (numeral n) ≡ k + 1
length_by_power zero n least most = length_one n (omega arith)
length_by_power (suc k) n least most =
    let p : 10 ^ suc k ≡ 10 ^ k * 10 = pow-suc 10 k in
    omega (arith, p, length_more n (omega (arith, p)), length_by_power k (n / 10) (omega (arith, p)) (omega (arith, p)))

-- for the loop that writes a number's digits
pub ruleset writing = (digit_written, numeral_last_digits)
