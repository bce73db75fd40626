-- The steps of converting a reading are document 01's `convert`: a value at or above the cut-off is out of every accepted
-- range. Assumes nothing.
use mathlib.Core.Path.{◌≡◌, refl}
use mathlib.Core.Bool.{Bool, true, false, cond, ◌&&◌, and-false, false≢true}
use Prim.Native.Nat.{ℕ, ◌*◌, ◌^◌, ◌≤◌, ◌<◌, zero-le}
use native.Mathlib.Nat.{mul-pos, mul-le-mul, mul-le-mul_right}
use native.Mathlib.Omega.{arith}
use borrow.Author.Tests.{lt-leb, leb-true, leb-false}
use lib.Dec.{lit<, lit≤}
use lib.Ieee
use lib.Ieee.{Float, nan, inf, fin, down}
use lib.Ieee.Fits.{down_pos}
use denote.Floats.{passes}
use Rattle.std.specs.Prelude.{Result, Ok, Err}
use Rattle.rules.specs.Rounding.{up}
use Rattle.rules.specs.PlantData.{within}
use Rattle.rules.specs.LabReadings.{no_number, thousandths, per_head, result_in_range, reading_no_number, heads_in_range, reading_value, reading_in_range}
use Rattle.rules.specs.declared.PrimarySettling.{PrimarySettling}
use Rattle.rules.specs.declared.Parameter.{Parameter}
use Rattle.rules.specs.declared.Reading.{Reading}
use Rattle.rules.specs.declared.Reading.TheVariants
use Rattle.rules.specs.declared.Refusal.{Refusal}
use Rattle.accepting.specs.CutOff.{too_large, measurement}
use Rattle.accepting.specs.Conversion.{refusal_of, judge_result, convert}
use Rattle.rules.proofs.Tests.{within_between}
use Rattle.accepting.proofs.Ties.{le_closest, closest_le}
use Rattle.accepting.specs.declared.MeasurementError.{MeasurementError}

-- ---- a value at or above the cut-off

reached : (n parts u d : ℕ) → n * parts ≤ 8_388_608_000 → 2 ^ 23 * d ≤ u → n * (parts * d) ≤ 1000 * u
reached n parts u d h l =
    let k : n * parts * d ≤ 8_388_608_000 * d = mul-le-mul_right d h in
    omega arith

not_passed : (parts u d : ℕ) → 0 < parts → u < 2 ^ 23 * d → 1000 * u ≤ 8_388_608_000 * (parts * d)
not_passed parts u d one l =
    let k : 1 * d ≤ parts * d = mul-le-mul_right d one in
    omega arith

-- at or above 2 ^ 23, the thousandths of 1 / parts are at least 8,388,608,000 / parts
pub thousandths_least : (n parts : ℕ) (x : Float) → 0 < parts → n * parts ≤ 8_388_608_000 → too_large x ≡ true → n ≤ thousandths parts x
unfolding too_large thousandths
thousandths_least n parts nan one h t = absurd (false≢true t)
thousandths_least n parts (inf s) one h t = absurd (false≢true t)
thousandths_least n parts (fin s m e) one h t =
    le_closest (1000 * (m * Ieee.up e)) (parts * down e) n (mul-pos one (down_pos e))
    (reached n parts (m * Ieee.up e) (down e) h (leb-true (2 ^ 23 * down e) (m * Ieee.up e) t))

-- below 2 ^ 23 they are at most 8,388,608,000
pub thousandths_most : (parts : ℕ) (x : Float) → 0 < parts → too_large x ≡ false → thousandths parts x ≤ 8_388_608_000
unfolding too_large thousandths
thousandths_most parts nan one t = zero-le
thousandths_most parts (inf s) one t = zero-le
thousandths_most parts (fin s m e) one t =
    closest_le (1000 * (m * Ieee.up e)) (parts * down e) 8_388_608_000 (mul-pos one (down_pos e))
    (not_passed parts (m * Ieee.up e) (down e) one (leb-false (2 ^ 23 * down e) (m * Ieee.up e) t))

above_most : (k : Parameter) (n : ℕ) → 4_400_000 < n → result_in_range k n ≡ false
unfolding result_in_range
above_most Parameter.Bod n h = simp (lt-leb n 2_000_000 (omega arith), and-false)
above_most Parameter.Cod n h = simp (lt-leb n 4_400_000 h, and-false)
above_most Parameter.Solids n h = simp (lt-leb n 2_000_000 (omega arith), and-false)
above_most Parameter.Nitrogen n h = simp (lt-leb n 500_000 (omega arith), and-false)
above_most Parameter.Phosphorus n h = simp (lt-leb n 100_000 (omega arith), and-false)

-- a value at or above the cut-off, whole or halved, is out of every accepted range
pub too_large_out_of_range : (k : Parameter) (parts : ℕ) (x : Float) → 0 < parts → parts ≤ 2 → too_large x ≡ true → result_in_range k (thousandths parts x) ≡ false
too_large_out_of_range k parts x one two t =
    let l : 4_194_304_000 ≤ thousandths parts x = thousandths_least 4_194_304_000 parts x one (omega arith) t in
    above_most k (thousandths parts x) (omega arith)

-- ---- an f32, whole or halved

-- what becomes of its thousandths, or of their lack
abbrev pub judge_measurement : Parameter → Result ℕ MeasurementError → Result ℕ Refusal
judge_measurement k (Ok n) = judge_result k n
judge_measurement k (Err e) = Err (refusal_of e)

pub judged : (k : Parameter) (parts : ℕ) (x : Float) → 0 < parts → parts ≤ 2
    → judge_measurement k (measurement parts x) ≡ cond (no_number x) (Err Refusal.NoNumber) (judge_result k (thousandths parts x))
unfolding measurement
judged k parts x one two = go (no_number x) (too_large x) refl
  where
    go : (n t : Bool) → too_large x ≡ t
        → judge_measurement k (cond n (Err MeasurementError.NoNumber) (cond t (Err MeasurementError.TooLarge) (Ok (thousandths parts x))))
        ≡ cond n (Err Refusal.NoNumber) (judge_result k (thousandths parts x))
    go true t e = refl
    go false true e = simp (too_large_out_of_range k parts x one two e)
    go false false e = refl

-- ---- Table 1

-- no figure of Table 1 is above 1200
pub per_head_most : (k : Parameter) (s : PrimarySettling) → per_head k s ≤ 1_200
unfolding per_head
per_head_most Parameter.Bod s = elim s as (λ t. per_head Parameter.Bod t ≤ 1_200) [ PrimarySettling.None ↦ lit≤ tt | PrimarySettling.Short ↦ lit≤ tt | PrimarySettling.Long ↦ lit≤ tt ]
per_head_most Parameter.Cod s = elim s as (λ t. per_head Parameter.Cod t ≤ 1_200) [ PrimarySettling.None ↦ lit≤ tt | PrimarySettling.Short ↦ lit≤ tt | PrimarySettling.Long ↦ lit≤ tt ]
per_head_most Parameter.Solids s = elim s as (λ t. per_head Parameter.Solids t ≤ 1_200) [ PrimarySettling.None ↦ lit≤ tt | PrimarySettling.Short ↦ lit≤ tt | PrimarySettling.Long ↦ lit≤ tt ]
per_head_most Parameter.Nitrogen s = elim s as (λ t. per_head Parameter.Nitrogen t ≤ 1_200) [ PrimarySettling.None ↦ lit≤ tt | PrimarySettling.Short ↦ lit≤ tt | PrimarySettling.Long ↦ lit≤ tt ]
per_head_most Parameter.Phosphorus s = elim s as (λ t. per_head Parameter.Phosphorus t ≤ 1_200) [ PrimarySettling.None ↦ lit≤ tt | PrimarySettling.Short ↦ lit≤ tt | PrimarySettling.Long ↦ lit≤ tt ]

-- ---- the kinds of reading, at a daily flow q and a primary settling s

module _ (q : ℕ) (s : PrimarySettling) (k : Parameter) where
  pub measured : (x : Float) → judge_measurement k (measurement 1 x) ≡ convert q s k (Reading.Measured x)
  unfolding convert reading_no_number reading_in_range heads_in_range reading_value
  measured x = judged k 1 x (lit< tt) (lit≤ tt)

  pub below : (x : Float) → judge_measurement k (measurement 2 x) ≡ convert q s k (TheVariants.Below x)
  unfolding convert reading_no_number reading_in_range heads_in_range reading_value
  below x = judged k 2 x (lit< tt) (lit≤ tt)

  pub heads :
      (n : ℕ) → convert q s k (Reading.Heads n)
      ≡ cond (within 1 2_000_000 n) (judge_result k (up (n * per_head k s * 100) q)) (Err Refusal.ReadingRange)
  unfolding convert reading_no_number reading_in_range heads_in_range reading_value
  heads n = go (within 1 2_000_000 n) (result_in_range k (up (n * per_head k s * 100) q))
    where
      go : (a b : Bool) → cond (a && b) (Ok (up (n * per_head k s * 100) q)) (Err Refusal.ReadingRange) ≡ cond a (cond b (Ok (up (n * per_head k s * 100) q)) (Err Refusal.ReadingRange)) (Err Refusal.ReadingRange)
      go true b = refl
      go false b = refl

-- a head count in its range, as the number of 64 bits m, times g of Table 1
pub heads_most :
    (s : PrimarySettling) (k : Parameter) (n m g : ℕ) → within 1 2_000_000 n ≡ true → m ≡ n → g ≡ per_head k s
    → m * g ≤ 2_400_000_000
heads_most s k n m g e same figure =
    let range = (within_between 1 2_000_000 n).0 (passes (within 1 2_000_000 n) e) in
    rw (same, figure) (mul-le-mul range.most (per_head_most k s))
