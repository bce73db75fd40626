-- What the call for a date promises of its number and target, without the recursion over the terms: the target of a term that
-- runs on the day, and no term that runs has a lower one; or 0 where none runs; or 14 and 0. Assumes nothing.
use Rattle.std.specs.Prelude.{ℕ, ◌≤◌, ◌⊎◌, ◌≡◌, not, ◌&&◌, List, [], ◌∷◌, T}
use Rattle.rules.specs.Consent.{date_valid, in_force, terms_of, consent_valid}
use Rattle.rules.specs.declared.Date.{Date}
use Rattle.rules.specs.declared.Term.{Term}
use Rattle.rules.specs.declared.Consent.{Consent}

-- a term stands in a list
abbrev pub Among : Term → List Term → Type 0
Among term [] = ⊥
Among term (t ∷ later) = (term ≡ t) ⊎ Among term later

-- n is the target of a term that runs on the day, and no term that runs has a lower one
pub record Lowest (l : List Term) (d : Date) (n : ℕ) : Type 0 where
  pub term : Term
  pub among : Among term l
  pub running : T (in_force term d)
  pub own : term.nitrate_target ≡ n
  pub least : (t : Term) → Among t l → T (in_force t d) → n ≤ t.nitrate_target

-- no term runs on the day
abbrev pub NoneRuns : List Term → Date → Type 0
NoneRuns l d = (t : Term) → Among t l → T (in_force t d) → ⊥

-- terms and date are valid: 0, and the lowest target in force, or 0 where no term runs
pub record Told (c : Consent) (d : Date) (number target : ℕ) : Type 0 where
  pub valid : T (consent_valid c && date_valid d)
  pub numbered : number ≡ 0
  pub lowest : Lowest (terms_of c) d target ⊎ (NoneRuns (terms_of c) d × (target ≡ 0))

-- .. or they are not: 14 and 0
pub record NotTold (c : Consent) (d : Date) (number target : ℕ) : Type 0 where
  pub invalid : T (not (consent_valid c && date_valid d))
  pub numbered : number ≡ 14
  pub zero : target ≡ 0

abbrev pub TargetOutcome : Consent → Date → ℕ → ℕ → Type 0
TargetOutcome c d number target = Told c d number target ⊎ NotTold c d number target
