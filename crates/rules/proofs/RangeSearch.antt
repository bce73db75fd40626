-- `any` over a range, said of the numbers in it: the library says so of `find` alone. Assumes nothing.
use mathlib.Core.Path.{◌≡◌, refl, subst}
use mathlib.Core.Bool.{Bool, true, false}
use mathlib.Core.List.{List}
use Prim.Native.Nat.{ℕ, ◌+◌, ◌-◌, ◌≤◌, ◌<◌}
use native.Mathlib.Omega.{arith}
use lib.ListN.{length, get_or}
use denote.Param.Members.{Mut}
use Rattle.std.specs.Prelude.{Option}
use Rattle.std.specs.declared.ops.Range.{Range}
use Rattle.std.specs.Iterator.{YieldsThen}
use Rattle.std.proofs.iter.Yields.{nat_range_steps}
use Rattle.std.specs.List.{FoldsTo, range_with_len, AllWithin, HoldsAt}
use Rattle.std.specs.Fn.{Called}
use Rattle.std.specs.Option.{MatchOption}
use Rattle.std.specs.Bool.{MatchBool}
use Rattle.std.proofs.lemmas.Iterator.{YieldsList-from_range, cases_from_any}
use Rattle.std.proofs.lemmas.List.FromFn.{get_or-range_with_len, length-range_with_len}

module _ (s : Range ℕ) where
  abbrev all : List ℕ
  all = range_with_len s.start (s.end - s.start)

  at : (i : ℕ) → i < s.end - s.start → get_or all i 0 ≡ s.start + i
  at i below = get_or-range_with_len s.start (s.end - s.start) i 0 below

  long : length all ≡ s.end - s.start
  long = length-range_with_len s.start (s.end - s.start)

  module _ (Yes No : ℕ → Type 0) where
    numbers : (r : Bool) → MatchBool r ((k : ℕ) × (k < length all) × HoldsAt Yes all k) (AllWithin No all 0 (length all))
        → MatchBool r ((k : ℕ) × (s.start ≤ k) × (k < s.end) × Yes k) ((k : ℕ) → s.start ≤ k → k < s.end → No k)
    numbers true h =
        let below : h.0 < s.end - s.start = omega (arith, long, h.1) in
        (s.start + h.0, omega arith, omega arith, subst Yes (at h.0 below) (h.2 0))
    numbers false h = λ k least most.
        let below : k - s.start < s.end - s.start = omega arith in
        let same : s.start + (k - s.start) ≡ k = omega arith in
        subst No same (subst No (at (k - s.start) below) (h (k - s.start) 0 (omega arith) (omega (arith, long))))

pub any_from_Range :
    {F : Type 0} {g : Mut F (ℕ × Unit {0}) Bool} (s u : Range ℕ) (f : F) (r : Bool) (Yes No : ℕ → Type 0)
    → (xs : List ℕ) × (o : Option ℕ) × (j : F) × YieldsThen nat_range_steps s xs o u × FoldsTo (λ p x q. Called g p (x, tt) false q) f xs j
    × MatchOption o (r ≡ false) (λ x. (r ≡ true) × ((h : F) × Called g j (x, tt) true h))
    → ((x : ℕ) (q : F) → Called g f (x, tt) true q → Yes x)
    → ((x : ℕ) (q : F) → Called g f (x, tt) false q → (q ≡ f) × No x)
    → MatchBool r ((k : ℕ) × (s.start ≤ k) × (k < s.end) × Yes k) ((k : ℕ) → s.start ≤ k → k < s.end → No k)
any_from_Range s u f r Yes No ran yes' no' = numbers s Yes No r (cases_from_any u f r Yes No ran (YieldsList-from_range s.start s.end (s.end - s.start) refl refl) yes' no')
