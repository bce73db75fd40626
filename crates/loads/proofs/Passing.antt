-- The window of a pass over the log: it starts with no day passed, each step passes one more, and at the end it holds the
-- answer. Assumes nothing.
use mathlib.Core.Logic.{◌⊎◌, inl, inr}
use mathlib.Core.Path.{◌≡◌, refl, sym, ap, ◌∙◌}
use mathlib.Core.Bool.{false}
use mathlib.Core.List.{List}
use Prim.Native.Nat.{ℕ, ◌+◌, ◌-◌, ◌%◌, ◌≤◌, ◌<◌, zero-le}
use native.Mathlib.Nat.{eq-or-lt_of_le}
use native.Mathlib.Numerals.{add-one}
use native.Mathlib.Omega.{arith}
use borrow.Author.Tests.{leb-true, leb-false, ltb-false}
use denote.Floats.{passes, is_true}
use lib.Dec.{leb, ltb}
use lib.Ieee.{Float, binary32, of_bits}
use lib.ListN.{length, get_or, set, length-set, replicate, length-replicate, get_or-replicate}
use lib.Seq.{get_or-set_same, get_or-set_other}
use Rattle.std.proofs.lemmas.Bool.{cond_both}
use Rattle.std.specs.Prelude.{Ok, Err}
use Rattle.words.specs.Bytes.{word}
use Rattle.rules.specs.Sums.{sum_from}
use Rattle.rules.specs.DayLog.{day_count, day_of, days_kept, window_load, higher, highest_of, log_whole, log_rules, load_by, two_week_load}
use Rattle.rules.specs.DayLogOutcome.{Whole, BrokenDay}
use Rattle.rules.specs.declared.Refusal.{Refusal}
use Rattle.rules.proofs.SumLaws.{sum_zero}
use Rattle.rules.proofs.DayLogLaws.{log_whole_lem, days_kept_lem, due_13, load_refused_when_due}
use Rattle.loads.specs.Windows.{most_load, highest_after, oldest, moved, stepped, Room}
use Rattle.loads.proofs.Windows.{load_on, padded, Passed}
use Rattle.loads.specs.declared.Window.{Window}
use Rattle.loads.proofs.Counting.{load_most, step_given, step_refused}
use Rattle.loads.proofs.Sliding.{slide, first_at_most, padded_none, padded_day, padded_window, highest_step, sum_bounded}

module _ (log : List ℕ) where
  -- the loads with 14 days before the first, and the sum of a window
  abbrev load : ℕ → ℕ
  load = padded (load_on log)

  -- a day out of the two arrays
  pub day_read :
      (count i a b : ℕ) (x y : Float) → count ≡ day_count log
      → a ≡ word log (i + 1) → x ≡ of_bits binary32 a
      → b ≡ word log (count + i + 1) → y ≡ of_bits binary32 b
      → record { flow = x; bod = y } ≡ day_of log (i + 1)
  unfolding day_of
  day_read count i a b x y n e f g h =
      let place : count + i + 1 ≡ day_count log + (i + 1) = omega arith in
      let flow : x ≡ of_bits binary32 (word log (i + 1)) = f ∙ ap (of_bits binary32) e in
      let bod : y ≡ of_bits binary32 (word log (day_count log + (i + 1))) = h ∙ ap (of_bits binary32) (g ∙ ap (word log) place) in
      λ i. record { flow = flow i; bod = bod i }

  -- no day passed
  pub none_passed :
      Passed log 0 (record { loads = replicate 14 0; sum = 0; days = 0; highest = record { sum = 0; day = 1 } })
  unfolding highest_of days_kept
  none_passed =
      record {
        size = length-replicate {A = ℕ} 14 0;
        holds = λ j l m.
            let e : j % 14 < 14 = omega arith in
            get_or-replicate {A = ℕ} 14 (j % 14) 0 0 e ∙ sym (padded_none (load_on log) j (omega arith));
        sum = sym (sum_zero 0 14 load (λ j l m. padded_none (load_on log) j (omega arith)));
        days = refl;
        highest = refl;
        kept = refl;
      }

  module _ (n : ℕ) (w : Window) (p : Passed log n w) where
    -- what goes is the load of the day 14 before
    goes : oldest w ≡ load n
    goes = ap (λ (d : ℕ). get_or w.loads (d % 14) 0) p.days ∙ p.holds n (omega arith) (omega arith)

    -- the loads of kept days are in their range, and one more can come in
    in_range : (j : ℕ) → n ≤ j → j < n + 14 → load j ≤ most_load
    unfolding padded
    in_range j l m =
        cond_both (ltb j 14) 0 (load_on log (j - 13)) (λ s. s ≤ most_load) (λ e. zero-le)
        (λ e.
        let late : 14 ≤ j = ltb-false j 14 e in
        load_most (day_of log (j - 13)) ((days_kept_lem log n).0 (passes (days_kept log n) p.kept) (j - 13) (omega arith) (omega arith)))

    pub room : n < 3_660 → Room w
    room few =
        record {
          sum = omega (arith, p.sum, sum_bounded n 14 most_load load in_range);
          days = omega (arith, p.days);
          oldest = omega (arith, goes, p.sum, first_at_most n 13 load);
        }

    -- the load that comes
    comes : load (n + 14) ≡ load_on log (n + 1)
    comes = let e : n + 14 ≡ n + 1 + 13 = omega arith in ap load e ∙ padded_day (load_on log) (n + 1) (omega arith)

    next_sum : w.sum + load_on log (n + 1) - oldest w ≡ sum_from (n + 1) 14 load
    next_sum = omega (arith, goes, comes, p.sum, slide n 14 load)

    next_holds :
        (j : ℕ) → n + 1 ≤ j → j < n + 1 + 14
        → get_or (set w.loads (w.days % 14) (load_on log (n + 1))) (j % 14) 0 ≡ load j
    next_holds j l m = rw p.days (go (eq-or-lt_of_le within))
      where
        within : j ≤ n + 14
        within = omega arith

        go : (j ≡ n + 14) ⊎ (j < n + 14) → get_or (set w.loads (n % 14) (load_on log (n + 1))) (j % 14) 0 ≡ load j
        go (inl e) =
            let slot : j % 14 ≡ n % 14 = omega arith in
            let inside : n % 14 < length w.loads = omega (arith, p.size) in
            rw slot (get_or-set_same w.loads (n % 14) (load_on log (n + 1)) 0 inside ∙ (sym comes ∙ ap load (sym e)))
        go (inr less) =
            get_or-set_other w.loads (n % 14) (j % 14) (load_on log (n + 1)) 0 (λ e. omega arith)
            ∙ p.holds j (omega arith) less

    next_highest : (s : ℕ) → s ≡ sum_from (n + 1) 14 load → highest_after w.highest s (w.days + 1) ≡ highest_of (window_load log) (n + 1 - 13)
    unfolding highest_after window_load
    next_highest s e =
        rw (p.days, p.highest, e)
        (cond_both (leb 14 (n + 1)) (higher (highest_of (window_load log) (n - 13)) (sum_from (n + 1) 14 load) (n + 1 - 13)) (highest_of (window_load log) (n - 13))
        (λ h. h ≡ highest_of (window_load log) (n + 1 - 13))
        (λ q.
        let long : 13 ≤ n = omega (arith, leb-true 14 (n + 1) q) in
        let day : n + 1 - 13 ≡ n - 13 + 1 = omega arith in
        let last : n + 1 ≡ n - 13 + 1 + 13 = omega arith in
        let sum : sum_from (n + 1) 14 load ≡ window_load log (n - 13 + 1) =
        ap (λ (j : ℕ). sum_from j 14 load) last ∙ padded_window (load_on log) (n - 13 + 1) 14 (omega arith) in
        rw (day, sum) (sym (highest_step (window_load log) (n - 13))))
        (λ q.
        let early : n + 1 < 14 = leb-false 14 (n + 1) q in
        let none : n - 13 ≡ n + 1 - 13 = omega arith in
        ap (highest_of (window_load log)) none))

    -- one day more is passed, which is kept
    pub one_more_passed : (v : Window) → Ok v ≡ stepped w (day_of log (n + 1)) → Passed log (n + 1) v
    unfolding moved days_kept
    one_more_passed v e =
        let given = step_given (day_of log (n + 1)) w v e in
        rw given.1
        (record {
          size = length-set w.loads (w.days % 14) (load_on log (n + 1)) ∙ p.size;
          holds = next_holds;
          sum = next_sum;
          days = ap (λ (d : ℕ). d + 1) p.days;
          highest = next_highest (w.sum + load_on log (n + 1) - oldest w) next_sum;
          kept = ap (days_kept log) (add-one n) ∙ rw (p.kept, given.0);
        })

    -- a day is refused, and so is the log
    pub day_refused : Whole log → n < day_count log → (r : Refusal) → Err r ≡ stepped w (day_of log (n + 1)) → Err r ≡ two_week_load log
    day_refused whole l r e =
        let refused = step_refused (day_of log (n + 1)) w r e in
        let broken : BrokenDay log (day_count log) = record { day = n + 1; first = omega arith; last = omega arith; broken = rw refused.0 tt } in
        rw refused.1 (sym ((load_refused_when_due log Refusal.DayValue).1 ((due_13 log).1 (whole, broken))))

  -- the answer of a log that is not whole
  pub not_whole : log_whole log ≡ false → Err Refusal.DayLog ≡ two_week_load log
  unfolding two_week_load load_by log_rules
  not_whole e = rw e

  -- and of one whose days are all kept
  pub all_kept_lem : Whole log → (w : Window) → Passed log (day_count log) w → Ok w.highest ≡ two_week_load log
  unfolding two_week_load load_by log_rules
  all_kept_lem whole w p = rw (is_true (log_whole log) ((log_whole_lem log).1 whole), p.kept) (ap Ok p.highest)
