-- The highest two-week load: what the recursion gives is the load of a window, none is larger, and every earlier one is
-- smaller; and there is one such load. Assumes nothing.
use mathlib.Core.Path.{◌≡◌, refl, sym, subst}
use mathlib.Core.List.{List}
use Prim.Native.Nat.{ℕ, zero, suc, ◌+◌, ◌-◌, ◌≤◌, ◌<◌}
use native.Mathlib.Omega.{arith}
use borrow.Author.Tests.{ltb-true, ltb-false}
use lib.Dec.{ltb}
use borrow.Author.Count.{below_more}
use Rattle.std.proofs.lemmas.Bool.{cond_both}
use Rattle.rules.specs.DayLog.{day_count, window_load, windows, higher, highest_of}
use Rattle.rules.specs.DayLogOutcome.{Highest}
use Rattle.rules.specs.declared.TwoWeekLoad.{TwoWeekLoad}

-- the load is the first of the highest among the windows of the days 1 to n
pub record Among (w : ℕ → ℕ) (n : ℕ) (load : TwoWeekLoad) : Type 0 where
  pub first : 1 ≤ load.day
  pub last : load.day ≤ n
  pub exact : w load.day ≡ load.sum
  pub no_larger : (d : ℕ) → 1 ≤ d → d ≤ n → w d ≤ load.sum
  pub earlier_smaller : (d : ℕ) → 1 ≤ d → d < load.day → w d < load.sum

module _ (w : ℕ → ℕ) where
  -- the days up to n + 1 are those up to n, and n + 1
  one_more : (n s : ℕ) → ((d : ℕ) → 1 ≤ d → d ≤ n → w d ≤ s) → w (n + 1) ≤ s → (d : ℕ) → 1 ≤ d → d ≤ n + 1 → w d ≤ s
  one_more n s before here d l m =
      below_more (λ (d : ℕ). 1 ≤ d → w d ≤ s) (n + 1) (λ d m l. before d l (omega arith)) (λ l. here) d (omega arith) l

  -- one window alone
  one_window : Among w 1 (highest_of w 1)
  unfolding highest_of higher
  one_window =
      cond_both (ltb 0 (w 1)) (record { sum = w 1; day = 1 }) (record { sum = 0; day = 1 }) (Among w 1)
      (λ q.
      record { first = omega arith; last = omega arith; exact = refl; no_larger = only (w 1) (omega arith); earlier_smaller = λ d l m. absurd (omega arith) })
      (λ q.
      let none : w 1 ≤ 0 = ltb-false 0 (w 1) q in
      record { first = omega arith; last = omega arith; exact = omega arith; no_larger = only 0 none; earlier_smaller = λ d l m. absurd (omega arith) })
    where
      only : (s : ℕ) → w 1 ≤ s → (d : ℕ) → 1 ≤ d → d ≤ 1 → w d ≤ s
      only s h d l m = let e : d ≡ 1 = omega arith in rw e h

  -- one window more
  next_window : (n : ℕ) (best : TwoWeekLoad) → Among w n best → Among w (n + 1) (higher best (w (n + 1)) (n + 1))
  unfolding higher
  next_window n best a =
      cond_both (ltb best.sum (w (n + 1))) (record { sum = w (n + 1); day = n + 1 }) best (Among w (n + 1))
      (λ q.
      let more : best.sum < w (n + 1) = ltb-true best.sum (w (n + 1)) q in
      record {
        first = omega arith;
        last = omega arith;
        exact = refl;
        no_larger = one_more n (w (n + 1)) (λ d l m. omega (arith, a.no_larger d l m)) (omega arith);
        earlier_smaller = λ d l m. omega (arith, a.no_larger d l (omega arith));
      })
      (λ q.
      let less : w (n + 1) ≤ best.sum = ltb-false best.sum (w (n + 1)) q in
      record {
        first = a.first;
        last = omega (arith, a.last);
        exact = a.exact;
        no_larger = one_more n best.sum a.no_larger less;
        earlier_smaller = a.earlier_smaller;
      })

  pub highest_among : (n : ℕ) → Among w (suc n) (highest_of w (suc n))
  unfolding highest_of
  highest_among zero = one_window
  highest_among (suc n) =
      let next : suc n + 1 ≡ suc (suc n) = omega arith in
      subst (λ (m : ℕ). Among w m (highest_of w (suc (suc n)))) next (next_window (suc n) (highest_of w (suc n)) (highest_among n))

-- of a log with a window the recursion gives the highest load
pub highest : (log : List ℕ) → 14 ≤ day_count log → Highest log (highest_of (window_load log) (windows log))
highest log long =
    let some : windows log ≡ suc (day_count log - 14) = omega arith in
    rw some (of (highest_among (window_load log) (day_count log - 14)))
  where
    of : {load : TwoWeekLoad} → Among (window_load log) (suc (day_count log - 14)) load → Highest log load
    of a =
        record {
          is_window = record { first = a.first; last = omega (arith, a.last) };
          exact = a.exact;
          no_larger = λ d h. a.no_larger d h.first (omega (arith, h.last));
          earlier_smaller = λ d h l. a.earlier_smaller d h.first l;
        }

-- two loads that are the highest are the same
pub highest_once : (log : List ℕ) (a b : TwoWeekLoad) → Highest log a → Highest log b → a ≡ b
highest_once log a b h k = λ i. record { sum = sums i; day = days i }
  where
    sums : a.sum ≡ b.sum
    sums =
        omega (arith, h.exact, k.exact, h.no_larger b.day k.is_window, k.no_larger a.day h.is_window)

    not_before : (x y : TwoWeekLoad) → Highest log x → Highest log y → x.sum ≡ y.sum → x.day < y.day → ⊥
    not_before x y p q e l = omega (arith, p.exact, q.earlier_smaller x.day p.is_window l)

    days : a.day ≡ b.day
    days = omega (arith, not_before a b h k sums, not_before b a k h (sym sums))
