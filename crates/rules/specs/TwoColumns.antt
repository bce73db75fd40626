-- The two columns that are read aloud, said of an answer: nitrate to be removed, and nitrate that the tank can remove.
-- Assumes nothing.
use Rattle.std.specs.Prelude.{ℕ, ◌≤◌, List, [], ◌∷◌, T, Ok, Err}
use Rattle.rules.specs.Rules.{all_kept}
use Rattle.rules.specs.Accepting.{values_of, data_rules}
use Rattle.rules.specs.AgeNitrate.{removable}
use Rattle.rules.specs.ReactorSteps.{reactor_of}
use Rattle.rules.specs.Consent.{terms_of}
use Rattle.rules.specs.TermSteps.{term_removes, term_denitrified}
use Rattle.rules.specs.declared.Plant.{Plant}
use Rattle.rules.specs.declared.Readings.{Readings}
use Rattle.rules.specs.declared.Concentrations.{Concentrations}
use Rattle.rules.specs.declared.Reactor.{Reactor}
use Rattle.rules.specs.declared.Term.{Term}
use Rattle.rules.specs.Results.{Answer}

-- in a reactor the first column is at most the second: D ≤ down(K × C / 1000) + down(dose / 5)
abbrev pub DesignColumns : Reactor → Type 0
DesignColumns reactor = reactor.denitrified ≤ removable reactor.removes reactor.removed_by_dose

-- the same in each of some terms of the consent
abbrev pub TermColumns : Plant → Concentrations → Reactor → List Term → Type 0
TermColumns p x reactor [] = Unit {0}
TermColumns p x reactor (term ∷ later) =
    (term_denitrified reactor term ≤ removable (term_removes p x reactor term) reactor.removed_by_dose)
    × TermColumns p x reactor later

-- at a fraction: for the design, and in every term of the consent
pub record Removes (p : Plant) (x : Concentrations) (fraction : ℕ) : Type 0 where
  pub design : DesignColumns (reactor_of p x fraction)
  pub terms : TermColumns p x (reactor_of p x fraction) (terms_of p.consent)

-- a sheet is given for accepted data, and keeps the two columns at its own fraction
abbrev pub TwoColumns : Plant → Readings → Answer → Type 0
TwoColumns p r (Ok s) = T (all_kept (data_rules p r)) × Removes p (values_of p r) s.fraction
TwoColumns p r (Err n) = Unit {0}
