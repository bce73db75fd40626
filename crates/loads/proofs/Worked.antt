-- Small day logs, byte by byte, and what the definition answers, by computation. Assumes nothing.
use mathlib.Core.Path.{◌≡◌, refl}
use mathlib.Core.List.{List, [], ◌∷◌, ◌++◌}
use Prim.Native.Nat.{ℕ, ◌≤◌}
use native.Mathlib.Omega.{arith}
use lib.ListN.{replicate}
use Rattle.std.specs.Prelude.{Result, Ok, Err}
use Rattle.words.specs.Bytes.{low_bytes}
use Rattle.rules.specs.DayLog.{day_count, two_week_load}
use Rattle.rules.specs.declared.Refusal.{Refusal}
use Rattle.rules.proofs.Computing.{steps}
use Rattle.rules.proofs.DayLogLaws.{due_12, load_refused_when_due}
use Rattle.rules.specs.declared.TwoWeekLoad.{TwoWeekLoad}

-- words as bytes
unfoldable pub word_bytes : List ℕ → List ℕ
word_bytes [] = []
word_bytes (w ∷ words) = low_bytes 4 w ++ word_bytes words

-- a log of n days with flows and BOD values, each by its bits
unfoldable pub log_of : ℕ → List ℕ → List ℕ → List ℕ
log_of n flows bods = word_bytes (n ∷ (flows ++ bods))

-- the bits of 1, of 2 and of a NaN
abbrev pub one : ℕ
one = 0x3f80_0000

abbrev pub two : ℕ
two = 0x4000_0000

abbrev pub nan_bits : ℕ
nan_bits = 0x7fc0_0000

-- the same flow and the same BOD on each of n days
abbrev pub steady : ℕ → ℕ → ℕ → List ℕ
steady n flow bod = log_of n (replicate n flow) (replicate n bod)

-- fourteen days of 1, and a day of 2
abbrev pub high_last : List ℕ
high_last = log_of 15 (replicate 14 one ++ (two ∷ [])) (replicate 15 one)

abbrev pub load : ℕ → ℕ → Result TwoWeekLoad Refusal
load sum day = Ok (record { sum = sum; day = day })

-- 0x4843_5000 is 200,000, and 0x44fa_0000 is 2,000; 0x44fa_0004 is above 2,000 and rounded to it, 0x44fa_0005 is not
pub record WorkedLogs : Type 0 where
  pub zeros : two_week_load (steady 14 0 0) ≡ load 0 1
  pub minus_zero : two_week_load (steady 14 0x8000_0000 one) ≡ load 0 1
  pub equal_windows : two_week_load (steady 15 one one) ≡ load 14_000_000 1
  pub two_arrays : two_week_load (steady 14 one two) ≡ load 28_000_000 1
  pub later_window : two_week_load high_last ≡ load 15_000_000 2
  pub largest : two_week_load (steady 14 0x4843_5000 0x44fa_0000) ≡ load 5_600_000_000_000_000 1
  pub rounded_to_largest : two_week_load (steady 14 one 0x44fa_0004) ≡ load 28_000_000_000 1
  pub flow_too_large : two_week_load (steady 14 0x4843_5001 one) ≡ Err Refusal.DayValue
  pub bod_too_large : two_week_load (steady 14 one 0x44fa_0005) ≡ Err Refusal.DayValue
  pub no_number : two_week_load (steady 14 one nan_bits) ≡ Err Refusal.DayValue
  pub too_few : two_week_load (steady 13 one one) ≡ Err Refusal.DayLog
  pub empty : two_week_load [] ≡ Err Refusal.DayLog
  pub byte_more : two_week_load (steady 14 one nan_bits ++ (0 ∷ [])) ≡ Err Refusal.DayLog

pub worked_logs : WorkedLogs
unfolding steps word_bytes log_of
worked_logs =
    record {
      zeros = refl;
      minus_zero = refl;
      equal_windows = refl;
      two_arrays = refl;
      later_window = refl;
      largest = refl;
      rounded_to_largest = refl;
      flow_too_large = refl;
      bod_too_large = refl;
      no_number = refl;
      too_few = refl;
      empty = refl;
      byte_more = refl;
    }

too_many : day_count (word_bytes (0x2000_0000 ∷ [])) ≤ 3_660 → ⊥
unfolding steps word_bytes
too_many h = omega arith

-- four bytes whose count is 2 ^ 29: by the law, for so many days are not computed
pub wrapping : two_week_load (word_bytes (0x2000_0000 ∷ [])) ≡ Err Refusal.DayLog
wrapping = (load_refused_when_due (word_bytes (0x2000_0000 ∷ [])) Refusal.DayLog).1 ((due_12 (word_bytes (0x2000_0000 ∷ []))).1 (λ w. too_many w.count.most))
