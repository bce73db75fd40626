-- Wrong programs for the two-week load: the answer of each breaks the promise on a small log, or on any. Assumes nothing.
use mathlib.Core.Logic.{inl, inr}
use mathlib.Core.Path.{◌≡◌, refl, sym, ap}
use mathlib.Core.List.{List, [], ◌∷◌, ◌++◌}
use Prim.Native.Nat.{ℕ, ◌+◌, ◌-◌, ◌*◌, ◌%◌, ◌^◌}
use native.Mathlib.Omega.{arith}
use lib.Ieee.{binary32, of_bits}
use lib.ListN.{length}
use Rattle.std.specs.Prelude.{Result}
use Rattle.words.specs.Bytes.{word}
use Rattle.rules.specs.Sums.{sum_from}
use Rattle.rules.specs.LabReadings.{thousandths}
use Rattle.rules.specs.DayLog.{day_count, day_of, day_load, two_week_load, load_of, load_figures}
use Rattle.rules.specs.DayLogOutcome.{LoadOutcome}
use Rattle.rules.specs.declared.TwoWeekLoad.{TwoWeekLoad}
use Rattle.rules.proofs.Computing.{steps}
use Rattle.rules.proofs.RuleOrder.{refusal_number_between}
use Rattle.rules.proofs.DayLogLaws.{load_outcome, load_outcome_once}
use Rattle.loads.proofs.Worked.{word_bytes, log_of, one, two, nan_bits, steady, high_last, worked_logs, wrapping}
use Rattle.rules.specs.Answers.{answer_number}
use Rattle.rules.specs.declared.Refusal.{Refusal}

abbrev load_is : ℕ → ℕ → TwoWeekLoad
load_is sum day = record { sum = sum; day = day }

-- what keeps the promise is the definition's answer
right : (log : List ℕ) (n : ℕ) (l : TwoWeekLoad) (a : Result TwoWeekLoad Refusal) → two_week_load log ≡ a → LoadOutcome log n l → (n ≡ answer_number a) × (l ≡ load_of a)
right log n l a e o = load_outcome_once log n (answer_number a) l (load_of a) o (load_outcome log a (sym e))

-- ---- the window

-- The last of equal windows: fifteen equal days have two.
pub last_of_equal : LoadOutcome (steady 15 one one) 0 (load_is 14_000_000 2) → ⊥
unfolding load_of
last_of_equal o = omega (arith, ap (λ (l : TwoWeekLoad). l.day) (right _ _ _ _ worked_logs.equal_windows o).1)

-- A window of 13 days.
abbrev thirteen_days : List ℕ → ℕ
thirteen_days log = sum_from 1 13 (λ i. day_load (day_of log i))

pub window_of_13 : LoadOutcome (steady 15 one one) 0 (load_is (thirteen_days (steady 15 one one)) 1) → ⊥
unfolding steps word_bytes log_of
window_of_13 o = omega (arith, ap (λ (l : TwoWeekLoad). l.sum) (right _ _ _ _ worked_logs.equal_windows o).1)

-- The arrays taken as pairs of a flow and a BOD: a BOD in a flow's place.
abbrev paired : List ℕ → ℕ
paired log =
    sum_from 1 14 (λ d. thousandths 1 (of_bits binary32 (word log (2 * d - 1))) * thousandths 1 (of_bits binary32 (word log (2 * d))))

pub arrays_as_pairs : LoadOutcome (steady 14 one two) 0 (load_is (paired (steady 14 one two)) 1) → ⊥
unfolding steps word_bytes log_of
arrays_as_pairs o = omega (arith, ap (λ (l : TwoWeekLoad). l.sum) (right _ _ _ _ worked_logs.two_arrays o).1)

-- The last day left out: it makes the last window the highest.
pub last_day_left_out : LoadOutcome high_last 0 (load_is 14_000_000 1) → ⊥
unfolding load_of
last_day_left_out o = omega (arith, ap (λ (l : TwoWeekLoad). l.day) (right _ _ _ _ worked_logs.later_window o).1)

-- Day 0, as for a log of zeros where no window is above 0: of no log.
pub day_0 : (log : List ℕ) (sum : ℕ) → LoadOutcome log 0 (load_is sum 0) → ⊥
day_0 log sum (inl o) = omega (arith, o.highest.is_window.first)
day_0 log sum (inr o) = let b = refusal_number_between o.refusal in omega (arith, o.numbered)

-- ---- the refusals

-- 13 before 12: a log with a NaN and a byte too many.
pub value_before_length : (l : TwoWeekLoad) → LoadOutcome (steady 14 one nan_bits ++ (0 ∷ [])) 13 l → ⊥
unfolding answer_number
value_before_length l o = omega (arith, (right _ _ _ _ worked_logs.byte_more o).0)

-- The length computed before the count is tested, in 32 bits: it wraps, and four bytes are as long as their count says.
pub wrapping_length :
    ((4 + 8 * day_count (word_bytes (0x2000_0000 ∷ []))) % 2 ^ 32 ≡ length (word_bytes (0x2000_0000 ∷ [])))
    × ((n : ℕ) (l : TwoWeekLoad) → LoadOutcome (word_bytes (0x2000_0000 ∷ [])) n l → n ≡ 12)
unfolding steps word_bytes
wrapping_length = (refl, λ n l o. (right _ _ _ _ (wrapping) o).0)

-- The day before the sum on the page.
pub sum_then_day : load_figures (load_is 14_000_000 2) ≡ 14_000_000 ∷ 2 ∷ []
unfolding steps
sum_then_day = refl
