-- When 12 and 13 are due of a day log, and what its answer carries. Assumes nothing.
use mathlib.Core.Logic.{◌↔◌, ◌⊎◌, inl, inr}
use mathlib.Core.Path.{◌≡◌, refl, sym, ap, ◌∙◌}
use mathlib.Core.Bool.{Bool, true, false, not, ◌&&◌, and_comm}
use mathlib.Core.List.{List}
use Prim.Native.Nat.{ℕ, zero, suc, ◌+◌, ◌-◌, ◌*◌, ◌≤◌, ◌<◌}
use native.Mathlib.Nat.{eq-or-lt_of_le}
use native.Mathlib.Omega.{arith}
use denote.Floats.{passes, is_true}
use lib.Dec.{T, eqb, eqb→eq, T_not, not_T}
use lib.Ieee.{Float}
use lib.Ieee.Fits.{and_i, and_l, and_r, eq→eqb}
use lib.ListN.{length}
use Rattle.std.specs.Prelude.{Result, Ok, Err}
use Rattle.std.specs.Bool.{Decides}
use Rattle.std.proofs.lemmas.Bool.Decides.{Decides-below_and}
use Rattle.rules.specs.PlantData.{within}
use Rattle.rules.specs.LabReadings.{no_number, thousandths, reading_no_number, reading_value}
use Rattle.rules.specs.Rules.{all_kept, verdict, FirstBroken}
use Rattle.rules.specs.Answers.{refusal_number, answer_number}
use Rattle.rules.specs.DayLog.{day_count, day_of, log_whole, day_kept, days_kept, window_load, highest_of, windows, log_rules, load_by, two_week_load, load_of}
use Rattle.rules.specs.DayLogOutcome.{Whole, BrokenDay, LoadOutcome}
use Rattle.rules.specs.declared.PrimarySettling.{PrimarySettling}
use Rattle.rules.specs.declared.Parameter.{Parameter}
use Rattle.rules.specs.declared.Reading.{Reading}
use Rattle.rules.specs.declared.Refusal.{Refusal}
use Rattle.rules.specs.Results.{Verdict}
use Rattle.rules.specs.declared.TwoWeekLoad.{TwoWeekLoad}
use Rattle.rules.proofs.Tests.{within_between}
use Rattle.rules.proofs.RuleLists.{all_kept_verdict, broken_verdict}
use Rattle.rules.proofs.HighestLoad.{highest, highest_once}

-- a value is a number, and has its thousandths, as a measured reading does
pub as_measured :
    (q : ℕ) (s : PrimarySettling) (k : Parameter) (x : Float)
    → (reading_no_number (Reading.Measured x) ≡ no_number x) × (reading_value q s k (Reading.Measured x) ≡ thousandths 1 x)
unfolding reading_no_number reading_value
as_measured q s k x = (refl, refl)

-- ---- rule 12

pub log_whole_lem : (log : List ℕ) → T (log_whole log) ↔ Whole log
unfolding log_whole
log_whole_lem log = (
  λ t.
      record {
        count = (within_between 14 3_660 (day_count log)).0 (and_l (within 14 3_660 (day_count log)) (eqb (length log) (4 + 8 * day_count log)) t);
        size = eqb→eq (length log) (4 + 8 * day_count log) (and_r (within 14 3_660 (day_count log)) (eqb (length log) (4 + 8 * day_count log)) t);
      },
  λ h.
      and_i (within 14 3_660 (day_count log)) (eqb (length log) (4 + 8 * day_count log))
      ((within_between 14 3_660 (day_count log)).1 h.count)
      (eq→eqb h.size),
)

-- ---- rule 13

-- both values of each of the days 1 to n are kept
pub days_kept_lem : (log : List ℕ) (n : ℕ) → T (days_kept log n) ↔ ((d : ℕ) → 1 ≤ d → d ≤ n → T (day_kept (day_of log d)))
unfolding days_kept
days_kept_lem log n = (
  λ t d l m. let e : d - 1 + 1 ≡ d = omega arith in rw e at (kept.0 (is_true (days_kept log n) t) (d - 1) (omega arith)),
  λ h. passes (days_kept log n) (kept.1 (λ k l. h (k + 1) (omega arith) (omega arith))),
)
  where
    day : ℕ → Bool
    day k = day_kept (day_of log (k + 1))

    kept : Decides (days_kept log n) ((k : ℕ) → k < n → T (day k))
    kept = Decides-below_and day (λ k. T (day k)) (days_kept log) (λ k. (passes (day k), is_true (day k))) refl (λ m. and_comm (days_kept log m) (day m)) n

pub days_broken : (log : List ℕ) (n : ℕ) → T (not (days_kept log n)) ↔ BrokenDay log n
unfolding days_kept
days_broken log zero = (λ t. absurd t, λ b. absurd (omega (arith, b.first, b.last)))
days_broken log (suc n) = go (days_kept log n) refl (day_kept (day_of log (n + 1))) refl (days_broken log n)
  where
    earlier : BrokenDay log n → BrokenDay log (suc n)
    earlier b = record { day = b.day; first = b.first; last = omega (arith, b.last); broken = b.broken }

    go :
        (a : Bool) → days_kept log n ≡ a
        → (b : Bool) → day_kept (day_of log (n + 1)) ≡ b
        → T (not a) ↔ BrokenDay log n
        → T (not (a && b)) ↔ BrokenDay log (suc n)
    go false p b q before = (λ t. earlier (before.0 tt), λ h. tt)
    go true p false q before = (λ t. record { day = n + 1; first = omega arith; last = omega arith; broken = rw q tt }, λ h. tt)
    go true p true q before = (λ t. absurd t, λ h. here h (eq-or-lt_of_le h.last))
      where
        here : (h : BrokenDay log (suc n)) → (h.day ≡ suc n) ⊎ (h.day < suc n) → ⊥
        here h (inl e) =
            let same : h.day ≡ n + 1 = omega arith in
            rw (same, q) at h.broken
        here h (inr less) = before.1 (record { day = h.day; first = h.first; last = omega arith; broken = h.broken })

-- ---- when each is due

-- 12 exactly when the log is not whole
pub due_12 : (log : List ℕ) → FirstBroken (log_rules log) Refusal.DayLog ↔ (Whole log → ⊥)
unfolding log_rules
due_12 log = (forth, λ h. inl (not_T (log_whole log) (λ t. h ((log_whole_lem log).0 t)), refl))
  where
    forth : FirstBroken (log_rules log) Refusal.DayLog → Whole log → ⊥
    forth (inl f) w = T_not (log_whole log) f.0 ((log_whole_lem log).1 w)
    forth (inr (t, inl f)) w = cc
    forth (inr (t, inr f)) w = f.1

-- 13 exactly when it is whole, and a value of a day is not kept
pub due_13 : (log : List ℕ) → FirstBroken (log_rules log) Refusal.DayValue ↔ (Whole log × BrokenDay log (day_count log))
unfolding log_rules
due_13 log = (forth, λ h. inr ((log_whole_lem log).1 h.0, inl ((days_broken log (day_count log)).1 h.1, refl)))
  where
    forth : FirstBroken (log_rules log) Refusal.DayValue → Whole log × BrokenDay log (day_count log)
    forth (inl f) = cc
    forth (inr (t, inl f)) = ((log_whole_lem log).0 t, (days_broken log (day_count log)).0 f.0)
    forth (inr (t, inr f)) = absurd f.1

-- the answer is a refusal exactly when it is due
pub load_refused_when_due : (log : List ℕ) (n : Refusal) → (two_week_load log ≡ Err n) ↔ FirstBroken (log_rules log) n
unfolding two_week_load load_by
load_refused_when_due log n = (
  λ e. (broken_verdict (log_rules log) n).1 (forth (verdict (log_rules log)) e),
  λ f. ap (λ (v : Verdict). load_by v (highest_of (window_load log) (windows log))) ((broken_verdict (log_rules log) n).0 f),
)
  where
    forth : (v : Verdict) → load_by v (highest_of (window_load log) (windows log)) ≡ Err n → v ≡ Err n
    forth (Ok u) e = cc
    forth (Err m) e = cc

-- a log keeps the rules or breaks one of them first, and not both
not_both : (log : List ℕ) → T (all_kept (log_rules log)) → (n : Refusal) → FirstBroken (log_rules log) n → ⊥
not_both log t n f = cc ((broken_verdict (log_rules log) n).0 f, (all_kept_verdict (log_rules log)).0 t)

due_once : (log : List ℕ) (n m : Refusal) → FirstBroken (log_rules log) n → FirstBroken (log_rules log) m → n ≡ m
due_once log n m f g = cc ((broken_verdict (log_rules log) n).0 f, (broken_verdict (log_rules log) m).0 g)

-- ---- what an answer carries

-- a log that keeps the rules is whole
pub kept_whole : (log : List ℕ) → T (all_kept (log_rules log)) → Whole log
unfolding log_rules
kept_whole log t = (log_whole_lem log).0 (and_l (log_whole log) (days_kept log (day_count log) && true) t)

count_least : (log : List ℕ) → T (all_kept (log_rules log)) → 14 ≤ day_count log
count_least log t = (kept_whole log t).count.least

pub load_outcome : (log : List ℕ) (a : Result TwoWeekLoad Refusal) → a ≡ two_week_load log → LoadOutcome log (answer_number a) (load_of a)
unfolding two_week_load load_by answer_number load_of
load_outcome log a e = rw e (go (verdict (log_rules log)) refl)
  where
    go :
        (v : Verdict) → verdict (log_rules log) ≡ v
        → LoadOutcome log (answer_number (load_by v (highest_of (window_load log) (windows log)))) (load_of (load_by v (highest_of (window_load log) (windows log))))
    go (Ok u) k =
        let kept = (all_kept_verdict (log_rules log)).1 k in
        inl (record { numbered = refl; kept = kept; highest = highest log (count_least log kept) })
    go (Err n) k =
        inr (record { refusal = n; is_due = (broken_verdict (log_rules log) n).1 k; numbered = refl; zeros = (refl, (refl, tt)) })

-- the promise determines the number and the load
pub load_outcome_once :
    (log : List ℕ) (n m : ℕ) (a b : TwoWeekLoad)
    → LoadOutcome log n a → LoadOutcome log m b
    → (n ≡ m) × (a ≡ b)
load_outcome_once log n m a b (inl p) (inl q) = (p.numbered ∙ sym q.numbered, highest_once log a b p.highest q.highest)
load_outcome_once log n m a b (inl p) (inr q) = absurd (not_both log p.kept q.refusal q.is_due)
load_outcome_once log n m a b (inr p) (inl q) = absurd (not_both log q.kept p.refusal p.is_due)
load_outcome_once log n m a b (inr p) (inr q) = (
  p.numbered ∙ (ap refusal_number (due_once log p.refusal q.refusal p.is_due q.is_due) ∙ sym q.numbered),
  λ i. record { sum = (p.zeros.0 ∙ sym q.zeros.0) i; day = (p.zeros.1.0 ∙ sym q.zeros.1.0) i },
)
