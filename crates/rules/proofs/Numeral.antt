-- The decimal numeral: its digits give the number back, each byte is a digit, there is no leading zero, and a number of 64
-- bits has one to twenty digits. Each law is an instance of one induction along the digits. Assumes nothing.
use mathlib.Core.Path.{◌≡◌, refl, sym}
use mathlib.Core.List.{List, [], ◌∷◌, ◌++◌}
use Prim.Native.Nat.{ℕ, zero, suc, ◌+◌, ◌-◌, ◌*◌, ◌/◌, ◌%◌, ◌^◌, ◌≤◌, ◌<◌}
use native.Mathlib.Nat.{pow-suc}
use native.Mathlib.Decide.{dec_le}
use native.Mathlib.Omega.{arith}
use lib.ListN.{length, get_or, length-append, get_or-append}
use lib.Seq.{get_or_at}
use borrow.Author.Tests.{le-leb, lt-leb}
use Rattle.rules.specs.Listing.{digits, numeral}
use Rattle.rules.specs.Ranges.{Between}

-- a number of one digit
one_digit : (d n : ℕ) → n ≤ 9 → digits d n ≡ (48 + n) ∷ []
unfolding digits
one_digit zero n small = refl
one_digit (suc d) n small = rw (digits, le-leb n 9 small)

-- a number of more digits: those of its tenth, and its last
more_digits : (d n : ℕ) → 9 < n → digits (suc d) n ≡ digits d (n / 10) ++ ((48 + n % 10) ∷ [])
unfolding digits
more_digits d n large = rw (digits, lt-leb n 9 large)

-- what holds of one digit, and of a numeral with one more digit, holds of each numeral
pub along_digits :
    (P : ℕ → List ℕ → Type 0)
    → ((n : ℕ) → n ≤ 9 → P n ((48 + n) ∷ []))
    → ((n : ℕ) (l : List ℕ) → 9 < n → P (n / 10) l → P n (l ++ ((48 + n % 10) ∷ [])))
    → (d n : ℕ)
    → n ≤ d
    → P n (digits d n)
along_digits P one more zero n le =
    let small : n ≤ 9 = omega arith in
    rw (one_digit zero n small) (one n small)
along_digits P one more (suc d) n le =
    elim (dec_le n 9) [
      | yes small ↦ rw (one_digit (suc d) n small) (one n small)
      | no large ↦
          let l : 9 < n = omega arith in
          rw (more_digits d n l) (more n (digits d (n / 10)) l (along_digits P one more d (n / 10) (omega arith)))
    ]

-- along-digits, of the numeral
pub along_numeral :
    (P : ℕ → List ℕ → Type 0)
    → ((n : ℕ) → n ≤ 9 → P n ((48 + n) ∷ []))
    → ((n : ℕ) (l : List ℕ) → 9 < n → P (n / 10) l → P n (l ++ ((48 + n % 10) ∷ [])))
    → (n : ℕ)
    → P n (numeral n)
unfolding numeral
along_numeral P one more n = along_digits P one more n n (omega arith)

-- the bound on the number of digits changes nothing
enough : (d n e : ℕ) → n ≤ d → n ≤ e → digits d n ≡ digits e n
enough d n e hd he = along_digits (λ m l. (k : ℕ) → m ≤ k → l ≡ digits k m) (λ m small k h. sym (one_digit k m small)) longer d n hd e he
  where
    longer : (m : ℕ) (l : List ℕ) → 9 < m → ((k : ℕ) → m / 10 ≤ k → l ≡ digits k (m / 10)) → (k : ℕ) → m ≤ k
        → l ++ ((48 + m % 10) ∷ []) ≡ digits k m
    longer m l large same zero h = absurd (omega arith)
    longer m l large same (suc k) h = rw (more_digits k m large, same k (omega arith))

-- the numeral of one digit, and of more
pub numeral_one : (n : ℕ) → n ≤ 9 → numeral n ≡ (48 + n) ∷ []
unfolding numeral
numeral_one n small = one_digit n n small

pub numeral_more : (n : ℕ) → 9 < n → numeral n ≡ numeral (n / 10) ++ ((48 + n % 10) ∷ [])
unfolding numeral
numeral_more zero large = absurd (omega arith)
numeral_more (suc n) large = rw (more_digits n (suc n) large, enough n (suc n / 10) (suc n / 10) (omega arith) (omega arith))

-- their lengths
pub length_one : (n : ℕ) → n ≤ 9 → length (numeral n) ≡ 1
length_one n small = rw (numeral_one n small)

pub length_more : (n : ℕ) → 9 < n → length (numeral n) ≡ length (numeral (n / 10)) + 1
length_more n large = rw (numeral_more n large, length-append)

-- the value of a run of digits after a number a
unfoldable pub value_after : ℕ → List ℕ → ℕ
value_after a [] = a
value_after a (b ∷ l) = value_after (10 * a + (b - 48)) l

value_last : (a b : ℕ) (l : List ℕ) → value_after a (l ++ (b ∷ [])) ≡ 10 * value_after a l + (b - 48)
unfolding value_after
value_last a b [] = refl
value_last a b (x ∷ l) = value_last (10 * a + (x - 48)) b l

-- the numeral of n has the value n
pub numeral_value : (n : ℕ) → value_after 0 (numeral n) ≡ n
unfolding value_after
numeral_value =
    along_numeral (λ n l. value_after 0 l ≡ n) (λ n small. omega arith)
    (λ n l large h. rw (value_last 0 (48 + n % 10) l, h) (omega arith))

-- each byte of a numeral is a digit
pub numeral_digits : (n i : ℕ) → i < length (numeral n) → Between 48 57 (get_or (numeral n) i 0)
numeral_digits = along_numeral (λ n l. (i : ℕ) → i < length l → Between 48 57 (get_or l i 0)) first later
  where
    first : (n : ℕ) → n ≤ 9 → (i : ℕ) → i < length ((48 + n) ∷ []) → Between 48 57 (get_or ((48 + n) ∷ []) i 0)
    first n small zero h = omega arith
    first n small (suc i) h = absurd (omega arith)

    later : (n : ℕ) (l : List ℕ) → 9 < n → ((i : ℕ) → i < length l → Between 48 57 (get_or l i 0)) → (i : ℕ)
        → i < length (l ++ ((48 + n % 10) ∷ [])) → Between 48 57 (get_or (l ++ ((48 + n % 10) ∷ [])) i 0)
    later n l large each i h =
        elim (dec_le (suc i) (length l)) [
          | yes before ↦ rw (get_or-append l ((48 + n % 10) ∷ []) 0 i before) (each i before)
          | no after ↦
              let b : i < length l + 1 = simp length-append at h in
              let e : length l ≡ i = omega arith in
              rw (get_or_at l (48 + n % 10) [] 0 i e) (omega arith)
        ]

-- a numeral has at least one digit, and its first is not 0 unless the number is 0
led : (n : ℕ) → (1 ≤ length (numeral n)) × (0 < n → 48 < get_or (numeral n) 0 0)
led =
    along_numeral (λ n l. (1 ≤ length l) × (0 < n → 48 < get_or l 0 0)) (λ n small. (omega arith, λ pos. omega arith))
    (λ n l large h.
    (simp length-append (omega arith), λ pos. rw (get_or-append l ((48 + n % 10) ∷ []) 0 0 h.0) (h.1 (omega arith))))

pub numeral_nonempty : (n : ℕ) → 1 ≤ length (numeral n)
numeral_nonempty n = (led n).0

pub numeral_no_leading_zero : (n : ℕ) → 0 < n → 48 < get_or (numeral n) 0 0
numeral_no_leading_zero n = (led n).1

pub numeral_zero : numeral 0 ≡ 48 ∷ []
numeral_zero = numeral_one 0 (omega arith)

-- at most k + 1 digits where the number is below 10 to that power
at_most : (n k : ℕ) → n < 10 ^ suc k → length (numeral n) ≤ suc k
at_most =
    along_numeral (λ n l. (k : ℕ) → n < 10 ^ suc k → length l ≤ suc k) (λ n small k h. omega arith) later
  where
    later : (n : ℕ) (l : List ℕ) → 9 < n → ((k : ℕ) → n / 10 < 10 ^ suc k → length l ≤ suc k) → (k : ℕ) → n < 10 ^ suc k
        → length (l ++ ((48 + n % 10) ∷ [])) ≤ suc k
    later n l large few zero h = absurd (omega arith)
    later n l large few (suc k) h =
        let p : 10 ^ suc (suc k) ≡ 10 ^ suc k * 10 = pow-suc 10 (suc k) in
        let f : length l ≤ suc k = few k (omega arith) in
        simp length-append (omega arith)

-- one to twenty digits for a number of 64 bits
pub numeral_length : (n : ℕ) → n < 2 ^ 64 → Between 1 20 (length (numeral n))
numeral_length n h = record { least = numeral_nonempty n; most = at_most n 19 (omega arith) }
