-- The lowest target in force: it is that of a term that runs, none that runs has a lower one, and no term runs exactly where none
-- contains the day; two targets that are lowest are the same. Each by one induction over the terms. Assumes nothing.
use mathlib.Core.Logic.{◌↔◌, inl, inr}
use mathlib.Core.Path.{◌≡◌, refl, ap, sym, subst}
use mathlib.Core.Bool.{Bool, true, false, not, ◌&&◌}
use mathlib.Core.List.{List, [], ◌∷◌}
use Prim.Native.Nat.{ℕ, ◌≤◌, ◌<◌, min}
use native.Mathlib.Nat.{le_antisymm}
use native.Mathlib.Omega.{arith}
use borrow.Author.Tests.{leb-true, leb-false}
use lib.Dec.{T, leb}
use Rattle.std.specs.Prelude.{Result, Ok, Err, Option, Some, None}
use denote.Floats.{passes}
use Rattle.std.proofs.lemmas.Bool.{cond_both}
use Rattle.rules.specs.Consent.{date_valid, in_force, terms_of, consent_valid, lower_of, lowest_target, target_on}
use Rattle.rules.specs.TargetOutcome.{Among, Lowest, NoneRuns, TargetOutcome}
use Rattle.rules.specs.Answers.{answer_number, value_or_zero}
use Rattle.rules.specs.declared.Date.{Date}
use Rattle.rules.specs.declared.Term.{Term}
use Rattle.rules.specs.declared.Consent.{Consent}
use Rattle.rules.specs.declared.Refusal.{Refusal}

-- what an answer over some terms says of them
abbrev Says : List Term → Date → Option ℕ → Type 0
Says l d (Some n) = Lowest l d n
Says l d None = NoneRuns l d

-- a term that does not run leaves it
idle : (term : Term) (l : List Term) (d : Date) (a : Option ℕ) → (T (in_force term d) → ⊥) → Says l d a → Says (term ∷ l) d a
idle term l d (Some n) idles s =
    record { term = s.term; among = inr s.among; running = s.running; own = s.own; least = λ t m r. go t m r }
  where
    go : (t : Term) → Among t (term ∷ l) → T (in_force t d) → n ≤ t.nitrate_target
    go t (inl e) r = absurd (idles (subst (λ (u : Term). T (in_force u d)) e r))
    go t (inr m) r = s.least t m r
idle term l d None idles s = go
  where
    go : (t : Term) → Among t (term ∷ l) → T (in_force t d) → ⊥
    go t (inl e) r = idles (subst (λ (u : Term). T (in_force u d)) e r)
    go t (inr m) r = s t m r

-- a term that runs lowers it to its own target, where that is the lower
runs : (term : Term) (l : List Term) (d : Date) (a : Option ℕ) → T (in_force term d) → Says l d a → Says (term ∷ l) d (lower_of a term.nitrate_target)
runs term l d None r s =
    record { term = term; among = inl refl; running = r; own = refl; least = go }
  where
    go : (t : Term) → Among t (term ∷ l) → T (in_force t d) → term.nitrate_target ≤ t.nitrate_target
    go t (inl e) q = let same : t.nitrate_target ≡ term.nitrate_target = ap (λ (u : Term). u.nitrate_target) e in omega arith
    go t (inr m) q = absurd (s t m q)
runs term l d (Some n) r s = go (leb term.nitrate_target n) refl
  where
    every : (k : ℕ) → k ≤ term.nitrate_target → k ≤ n → (t : Term) → Among t (term ∷ l) → T (in_force t d) → k ≤ t.nitrate_target
    every k a b t (inl e) q = let same : t.nitrate_target ≡ term.nitrate_target = ap (λ (u : Term). u.nitrate_target) e in omega arith
    every k a b t (inr m) q = let low : n ≤ t.nitrate_target = s.least t m q in omega arith

    go : (b : Bool) → leb term.nitrate_target n ≡ b → Lowest (term ∷ l) d (min term.nitrate_target n)
    go true e =
        let low : term.nitrate_target ≤ n = leb-true _ _ e in
        record { term = term; among = inl refl; running = r; own = omega arith; least = every (min term.nitrate_target n) (omega arith) (omega arith) }
    go false e =
        let low : n < term.nitrate_target = leb-false _ _ e in
        let own = s.own in
        record { term = s.term; among = inr s.among; running = s.running; own = omega arith; least = every (min term.nitrate_target n) (omega arith) (omega arith) }

lowest_says : (d : Date) (l : List Term) → Says l d (lowest_target d l)
lowest_says d [] = λ t m r. absurd m
lowest_says d (term ∷ later) =
    let a = lowest_target d later in
    cond_both (in_force term d) (lower_of a term.nitrate_target) a (Says (term ∷ later) d)
    (λ e. runs term later d a (passes _ e) (lowest_says d later))
    (λ e. idle term later d a (λ t. subst T e t) (lowest_says d later))

-- the target given is that of a term in force, and no term in force has a lower one
pub target_lowest : (d : Date) (l : List Term) (n : ℕ) → lowest_target d l ≡ Some n → Lowest l d n
target_lowest d l n e = subst (Says l d) e (lowest_says d l)

-- no term runs exactly when none contains the date
pub no_term_runs : (d : Date) (l : List Term) → (lowest_target d l ≡ None) ↔ NoneRuns l d
no_term_runs d l = (λ e. subst (Says l d) e (lowest_says d l), λ none. go (lowest_target d l) refl (lowest_says d l) none)
  where
    go : (a : Option ℕ) → lowest_target d l ≡ a → Says l d a → NoneRuns l d → lowest_target d l ≡ None
    go None e s none = e
    go (Some n) e s none = absurd (none s.term s.among s.running)

-- the lowest target is one number
pub lowest_once : (l : List Term) (d : Date) (m n : ℕ) → Lowest l d m → Lowest l d n → m ≡ n
lowest_once l d m n a b =
    le_antisymm (subst (λ (k : ℕ). m ≤ k) b.own (a.least b.term b.among b.running))
    (subst (λ (k : ℕ). n ≤ k) a.own (b.least a.term a.among a.running))

-- the call's number and target are what is promised of them
pub target_outcome : (c : Consent) (d : Date) (a : Result (Option ℕ) Refusal) → a ≡ target_on c d → TargetOutcome c d (answer_number a) (value_or_zero a)
unfolding target_on answer_number value_or_zero
target_outcome c d a e =
    rw e
    (cond_both (consent_valid c && date_valid d) (Ok (lowest_target d (terms_of c))) (Err Refusal.Terms)
    (λ (b : Result (Option ℕ) Refusal). TargetOutcome c d (answer_number b) (value_or_zero b))
    (λ q. told (passes _ q) (lowest_target d (terms_of c)) (lowest_says d (terms_of c)))
    (λ q. inr (record { invalid = subst (λ (v : Bool). T (not v)) (sym q) tt; numbered = refl; zero = refl })))
  where
    told : T (consent_valid c && date_valid d) → (b : Option ℕ) → Says (terms_of c) d b → TargetOutcome c d (answer_number (Ok b)) (value_or_zero (Ok b))
    told v (Some n) s = inl (record { valid = v; numbered = refl; lowest = inl s })
    told v None s = inl (record { valid = v; numbered = refl; lowest = inr (s, refl) })
