-- An f32's exact value in thousandths, from the exponent and the fraction of its bits: the value is a fraction of whole
-- numbers, and rounding depends on the fraction's value alone. Assumes nothing.
use mathlib.Core.Path.{◌≡◌, refl, sym, ap, ap₂, ◌∙◌, subst}
use mathlib.Core.Bool.{Bool, true, false, cond, true≢false}
use Prim.Native.Nat.{ℕ, zero, suc, ◌+◌, ◌-◌, ◌*◌, ◌/◌, ◌%◌, ◌^◌, ◌≤◌, ◌<◌}
use native.Mathlib.Nat.{mul-pos, mul-le-mul, mul-le-mul_left, mul-le-mul_right, mul-lt-mul_of_pos_right, le_of_mul-le-mul_right, lt_of_mul-lt-mul_right, le-add_right, mod-lt}
use native.Mathlib.Omega.{arith}
use borrow.Author.Tests.{le-leb, lt-leb, eq-eqb, ne_eqb}
use lib.Dec.{T, eqb, leb, lit≤}
use lib.Pow.{pow-add, pow_pos, pow_mono, field}
use lib.Ieee.{Float, nan, inf, fin, binary32, up, down, fits, to_bits, of_bits, of_fields}
use lib.Ieee.Bits.{of_bits-to_bits}
use lib.Ieee.Digits.{Equals, odd_val}
use lib.Ieee.Fits.{down_pos}
use lib.Ieee.Nearest.{closest, closest_same}
use Rattle.std.specs.Prelude.{Result, Ok, Err}
use Rattle.rules.specs.LabReadings.{no_number, thousandths}
use Rattle.accepting.specs.CutOff.{too_large, measurement}
use Rattle.accepting.proofs.Ties.{closest_zero}
use Rattle.accepting.specs.declared.MeasurementError.{MeasurementError}

-- ---- an exact value a / c

cross : (u c a d parts : ℕ) → u * c ≡ a * d → 1000 * u * (parts * c) ≡ 1000 * a * (parts * d)
cross u c a d parts h =
    let e : parts * (u * c) ≡ parts * (a * d) = ap (λ (n : ℕ). parts * n) h in
    omega arith

pub thousandths_of : (parts : ℕ) (x : Float) (a c : ℕ) → 0 < parts → 0 < c → Equals x a c → thousandths parts x ≡ closest (1000 * a) (parts * c)
unfolding thousandths
thousandths_of parts nan a c p q h = absurd h
thousandths_of parts (inf s) a c p q h = absurd h
thousandths_of parts (fin s m e) a c p q h =
    closest_same (1000 * (m * up e)) (parts * down e) (1000 * a) (parts * c) (mul-pos p (down_pos e)) (mul-pos p q) (cross (m * up e) c a (down e) parts h)

reaches : (u c a d : ℕ) → 0 < c → u * c ≡ a * d → 2 ^ 23 * c ≤ a → 2 ^ 23 * d ≤ u
reaches u c a d q h l =
    let k : 2 ^ 23 * c * d ≤ a * d = mul-le-mul_right d l in
    le_of_mul-le-mul_right (omega arith) q

stays : (u c a d : ℕ) → 0 < c → 0 < d → u * c ≡ a * d → a < 2 ^ 23 * c → u < 2 ^ 23 * d
stays u c a d q r h l =
    let k : a * d < 2 ^ 23 * c * d = mul-lt-mul_of_pos_right l r in
    lt_of_mul-lt-mul_right c (omega arith)

pub too_large_lem : (x : Float) (a c : ℕ) → 0 < c → Equals x a c → 2 ^ 23 * c ≤ a → too_large x ≡ true
unfolding too_large
too_large_lem nan a c q h l = absurd h
too_large_lem (inf s) a c q h l = absurd h
too_large_lem (fin s m e) a c q h l = le-leb (2 ^ 23 * down e) (m * up e) (reaches (m * up e) c a (down e) q h l)

pub not_too_large : (x : Float) (a c : ℕ) → 0 < c → Equals x a c → a < 2 ^ 23 * c → too_large x ≡ false
unfolding too_large
not_too_large nan a c q h l = absurd h
not_too_large (inf s) a c q h l = absurd h
not_too_large (fin s m e) a c q h l = lt-leb (2 ^ 23 * down e) (m * up e) (stays (m * up e) c a (down e) q (down_pos e) h l)

-- ---- the value of an exponent's field and a fraction

-- the numerator of a value over 2 ^ 149: a field of 0 has no leading digit
abbrev numerator : ℕ → ℕ → ℕ
numerator zero t = t * 2 ^ 0
numerator (suc k) t = (2 ^ 23 + t) * 2 ^ k

fields_value : (s : Bool) (k t : ℕ) → (k ≡ 255 → ⊥) → Equals (of_fields binary32 s k t) (numerator k t) (2 ^ 149)
unfolding of_fields
fields_value s zero t n = odd_val 24 s t 0 149
fields_value s (suc k) t n = rw (ne_eqb (suc k) 255 n) (odd_val 24 s (2 ^ 23 + t) k 149)

split : (x : Float) → T (fits binary32 x) → x ≡ of_fields binary32 (leb (2 ^ 31) (to_bits binary32 x)) (to_bits binary32 x / 2 ^ 23 % 2 ^ 8) (to_bits binary32 x % 2 ^ 23)
unfolding of_bits
split x fit =
    sym (of_bits-to_bits binary32 x fit)
    ∙ ap (λ (k : ℕ). of_fields binary32 (leb (2 ^ 31) (to_bits binary32 x)) k (to_bits binary32 x % 2 ^ 23)) (field (to_bits binary32 x) 8 23)

-- ---- the three spans of the exponent's field

scaled_lt : (u q p : ℕ) → 0 < p → u < 2 ^ 24 → q ≤ p → u * q < 2 ^ 24 * p
scaled_lt u q p pos h l =
    let a : u * q ≤ u * p = mul-le-mul_left u l in
    let b : u * p < 2 ^ 24 * p = mul-lt-mul_of_pos_right h pos in
    omega arith

-- below 2 ^ -17
numerator_low : (k t : ℕ) → k < 110 → t < 2 ^ 23 → numerator k t < 2 ^ 24 * 2 ^ 109
numerator_low zero t h l = scaled_lt t (2 ^ 0) (2 ^ 109) (pow_pos 109) (omega arith) (lit≤ tt)
numerator_low (suc k) t h l = scaled_lt (2 ^ 23 + t) (2 ^ k) (2 ^ 109) (pow_pos 109) (omega arith) (pow_mono {i = k} {j = 109} (omega arith))

-- p stands for 2 ^ 109, too large a number for `omega`
less_than_half : (parts a p : ℕ) → 0 < parts → a < 2 ^ 24 * p → 1000 * a * 2 < parts * (2 ^ 40 * p)
less_than_half parts a p pos h =
    let l : 1 * (2 ^ 40 * p) ≤ parts * (2 ^ 40 * p) = mul-le-mul_right (2 ^ 40 * p) pos in
    omega arith

under_cut_off : (a p : ℕ) → a < 2 ^ 24 * p → a < 2 ^ 23 * (2 ^ 40 * p)
under_cut_off a p h = omega arith

scales : (u q r p parts : ℕ) → q * r ≡ p → 1000 * (u * q) * (parts * r) ≡ 1000 * u * (parts * p)
scales u q r p parts h =
    let e : u * parts * (q * r) ≡ u * parts * p = ap (λ (n : ℕ). u * parts * n) h in
    omega arith

low_fields :
    (parts : ℕ) → 0 < parts → (s : Bool) (k t : ℕ) → t < 2 ^ 23 → no_number (of_fields binary32 s k t) ≡ false → k < 110
    → measurement parts (of_fields binary32 s k t) ≡ Ok 0
unfolding measurement
low_fields parts one s k t frac number h =
    let value = fields_value s k t (omega arith) in
    let small = numerator_low k t h frac in
    simp (
      number,
      not_too_large (of_fields binary32 s k t) (numerator k t) (2 ^ 149) (pow_pos 149) value (under_cut_off (numerator k t) (2 ^ 109) small),
      thousandths_of parts (of_fields binary32 s k t) (numerator k t) (2 ^ 149) one (pow_pos 149) value,
      closest_zero (1000 * numerator k t) (parts * 2 ^ 149) (less_than_half parts (numerator k t) (2 ^ 109) one small),
    )

cut_off_doubled : (a p : ℕ) → a < 2 ^ 24 * p → a < 2 ^ 23 * (2 * p)
cut_off_doubled a p h = omega arith

middle_fields :
    (parts : ℕ) → 0 < parts → (s : Bool) (k t : ℕ) → t < 2 ^ 23 → no_number (of_fields binary32 s k t) ≡ false → 110 ≤ k → k ≤ 149
    → measurement parts (of_fields binary32 s k t) ≡ Ok (closest (1000 * (2 ^ 23 + t)) (parts * 2 ^ (150 - k)))
unfolding measurement
middle_fields parts one s zero t frac number l h = absurd (omega arith)
middle_fields parts one s (suc k) t frac number l h =
    let value = fields_value s (suc k) t (omega arith) in
    let less : (2 ^ 23 + t) * 2 ^ k < 2 ^ 24 * 2 ^ 148 = scaled_lt (2 ^ 23 + t) (2 ^ k) (2 ^ 148) (pow_pos 148) (omega arith) (pow_mono {i = k} {j = 148} (omega arith)) in
    let whole : k + (150 - suc k) ≡ 149 = omega arith in
    let power : 2 ^ k * 2 ^ (150 - suc k) ≡ 2 ^ 149 = sym (pow-add 2 k (150 - suc k)) ∙ ap (λ (n : ℕ). 2 ^ n) whole in
    simp (
      number,
      not_too_large (of_fields binary32 s (suc k) t) ((2 ^ 23 + t) * 2 ^ k) (2 ^ 149) (pow_pos 149) value (cut_off_doubled ((2 ^ 23 + t) * 2 ^ k) (2 ^ 148) less),
      thousandths_of parts (of_fields binary32 s (suc k) t) ((2 ^ 23 + t) * 2 ^ k) (2 ^ 149) one (pow_pos 149) value,
      closest_same (1000 * ((2 ^ 23 + t) * 2 ^ k)) (parts * 2 ^ 149) (1000 * (2 ^ 23 + t)) (parts * 2 ^ (150 - suc k)) (mul-pos one (pow_pos 149)) (mul-pos one (pow_pos (150 - suc k)))
          (scales (2 ^ 23 + t) (2 ^ k) (2 ^ (150 - suc k)) (2 ^ 149) parts power),
    )

-- an exponent's field of 255 is no number
ends_no_number : (s : Bool) (k t : ℕ) → k ≡ 255 → no_number (of_fields binary32 s k t) ≡ true
unfolding of_fields no_number
ends_no_number s zero t e = absurd (omega arith)
ends_no_number s (suc k) t e = rw (eq-eqb (suc k) 255 e) (go (eqb t 0))
  where
    go : (b : Bool) → no_number (cond b (inf s) nan) ≡ true
    go true = refl
    go false = refl

high_fields :
    (parts : ℕ) (s : Bool) (k t : ℕ) → no_number (of_fields binary32 s k t) ≡ false → 150 ≤ k
    → measurement parts (of_fields binary32 s k t) ≡ (Err MeasurementError.TooLarge)
unfolding measurement
high_fields parts s zero t number l = absurd (omega arith)
high_fields parts s (suc k) t number l =
    let other : suc k ≡ 255 → ⊥ = λ e. true≢false (sym (ends_no_number s (suc k) t e) ∙ number) in
    let value = fields_value s (suc k) t other in
    simp (number, too_large_lem (of_fields binary32 s (suc k) t) ((2 ^ 23 + t) * 2 ^ k) (2 ^ 149) (pow_pos 149) value (mul-le-mul (le-add_right (2 ^ 23) t) (pow_mono {i = 149} {j = k} (omega arith))))

-- ---- an f32 by its bits

-- an f32 that is a number, with the exponent's field k and the fraction t of its bits
module _
    (parts : ℕ)
    (one : 0 < parts)
    (x : Float)
    (fit : T (fits binary32 x))
    (number : no_number x ≡ false)
    (k t : ℕ)
    (exponent : k ≡ to_bits binary32 x / 2 ^ 23 % 2 ^ 8)
    (fraction : t ≡ to_bits binary32 x % 2 ^ 23)
  where
    carried : (r : Result ℕ MeasurementError) → ((s : Bool) → no_number (of_fields binary32 s k t) ≡ false → measurement parts (of_fields binary32 s k t) ≡ r) → measurement parts x ≡ r
    carried r f =
        let s : Bool = leb (2 ^ 31) (to_bits binary32 x) in
        let is : x ≡ of_fields binary32 s k t = split x fit ∙ ap₂ (λ (m n : ℕ). of_fields binary32 s m n) (sym exponent) (sym fraction) in
        ap (measurement parts) is ∙ f s (sym (ap no_number is) ∙ number)

    frac : t < 2 ^ 23
    frac = subst (λ (n : ℕ). n < 2 ^ 23) (sym fraction) (mod-lt (to_bits binary32 x) (pow_pos 23))

    pub at_low : k < 110 → measurement parts x ≡ Ok 0
    at_low h = carried (Ok 0) (λ s n. low_fields parts one s k t frac n h)

    pub at_middle : 110 ≤ k → k ≤ 149 → measurement parts x ≡ Ok (closest (1000 * (2 ^ 23 + t)) (parts * 2 ^ (150 - k)))
    at_middle l h =
        carried (Ok (closest (1000 * (2 ^ 23 + t)) (parts * 2 ^ (150 - k)))) (λ s n. middle_fields parts one s k t frac n l h)

    pub at_high : 150 ≤ k → measurement parts x ≡ (Err MeasurementError.TooLarge)
    at_high l = carried (Err MeasurementError.TooLarge) (λ s n. high_fields parts s k t n l)
