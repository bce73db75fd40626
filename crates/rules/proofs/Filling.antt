-- A list while it is filled with a function's values, number by number. Assumes nothing.
use mathlib.Core.Path.{◌≡◌, ◌∙◌}
use mathlib.Core.List.{List}
use Prim.Native.Nat.{ℕ, ◌+◌, ◌<◌}
use native.Mathlib.Omega.{arith}
use lib.ListN.{length, get_or, set, length-set, replicate, length-replicate}
use Rattle.std.proofs.lemmas.List.Edits.{fill_by_more}
use Rattle.rules.specs.Sums.{values_from}
use Rattle.rules.proofs.SumLaws.{list_of_values}

-- the values below n are in a list of this size; d stands past its end
pub record FilledTo {A : Type 0} (d : A) (size : ℕ) (g : ℕ → A) (n : ℕ) (l : List A) : Type 0 where
  pub whole : length l ≡ size
  pub holds : (k : ℕ) → k < n → get_or l k d ≡ g k

module _ {A : Type 0} (d : A) (size : ℕ) (g : ℕ → A) where
  pub empty : (a : A) → FilledTo d size g 0 (replicate size a)
  empty a = record { whole = length-replicate {A = A} size a; holds = λ k b. absurd (omega arith) }

  pub entered : (n : ℕ) (v : A) (l : List A) → n < size → v ≡ g n → FilledTo d size g n l → FilledTo d size g (n + 1) (set l n v)
  entered n v l b e f =
      let here : n < length l = omega (arith, f.whole) in
      rw e (record { whole = length-set l n (g n) ∙ f.whole; holds = fill_by_more g l n d here f.holds })

  pub full : (l : List A) → FilledTo d size g size l → l ≡ values_from 0 size g
  full l f = list_of_values d size g l f.whole f.holds
