-- The recursions over a consent's terms, in the words of the iterators' methods. Assumes nothing.
use mathlib.Core.Path.{◌≡◌, refl, sym, ap}
use mathlib.Core.Bool.{Bool, true, false, cond, ◌&&◌}
use mathlib.Core.List.{List, [], ◌∷◌, map}
use Prim.Native.Nat.{ℕ, min, ◌≤◌}
use native.Mathlib.Omega.{arith}
use Rattle.std.specs.Prelude.{Option, Some, None}
use Rattle.std.specs.List.{list_all, filter, fold}
use denote.Floats.{passes}
use Rattle.rules.specs.Consent.{consent_valid, every, in_force, lower_of, lowest_target}
use Rattle.rules.specs.declared.Consent.{Consent}
use Rattle.rules.specs.declared.Date.{Date}
use Rattle.rules.specs.declared.Term.{Term}
use Rattle.rules.proofs.EveryTerm.{valid_terms}

-- a valid consent has at most four terms
pub count_most : (c : Consent) → consent_valid c ≡ true → c.count ≤ 4
count_most c e = (valid_terms c (passes (consent_valid c) e)).most

-- a test of every term is `all`
pub every_all : (f : Term → Bool) (l : List Term) → every f l ≡ list_all f l
every_all f [] = refl
every_all f (term ∷ later) = ap (λ (b : Bool). f term && b) (every_all f later)

-- the targets of the terms that run on a day
abbrev pub targets : Date → List Term → List ℕ
targets d l = map (λ t. t.nitrate_target) (filter (λ t. in_force t d) l)

-- the lowest of some targets does not depend on which of them comes first
lower_swapped : (a : Option ℕ) (m n : ℕ) → lower_of (lower_of a m) n ≡ lower_of (lower_of a n) m
lower_swapped (Some k) m n = let same : min n (min m k) ≡ min m (min n k) = omega arith in ap Some same
lower_swapped None m n = let same : min n m ≡ min m n = omega arith in ap Some same

fold_lower : (a : Option ℕ) (n : ℕ) (l : List ℕ) → fold lower_of (lower_of a n) l ≡ lower_of (fold lower_of a l) n
fold_lower a n [] = refl
fold_lower a n (x ∷ l) = rw (lower_swapped a n x) (fold_lower (lower_of a x) n l)

-- the lowest target in force is the lowest of theirs
pub lowest_fold : (d : Date) (l : List Term) → lowest_target d l ≡ fold lower_of None (targets d l)
lowest_fold d [] = refl
lowest_fold d (term ∷ later) = go (lowest_fold d later) (in_force term d)
  where
    rest : List Term
    rest = filter (λ t. in_force t d) later

    go :
        lowest_target d later ≡ fold lower_of None (targets d later) → (b : Bool)
        → cond b (lower_of (lowest_target d later) term.nitrate_target) (lowest_target d later)
        ≡ fold lower_of None (map (λ t. t.nitrate_target) (cond b (term ∷ rest) rest))
    go e true = rw e (sym (fold_lower None term.nitrate_target (targets d later)))
    go e false = e
