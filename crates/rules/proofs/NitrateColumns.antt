-- The two columns that are read aloud: nitrate to be removed, and nitrate that the tank can remove. On every permitted
-- candidate, and so on every sheet, the second is never the smaller. Assumes nothing.
use mathlib.Core.Logic.{◌↔◌}
use mathlib.Core.Path.{◌≡◌, refl, ap, sym, subst}
use Prim.Native.Nat.{ℕ, ◌+◌, ◌-◌, ◌*◌, ◌≤◌}
use native.Mathlib.Omega.{arith}
use lib.Dec.{T, leb→le, le→leb}
use mathlib.Core.Bool.{Bool, true, ◌&&◌}
use mathlib.Core.List.{List, [], ◌∷◌}
use lib.Ieee.Fits.{and_i, and_l, and_r}
use Rattle.std.specs.Prelude.{Ok, Err}
use Rattle.rules.specs.Rounding.{down}
use Rattle.rules.specs.Accepting.{accept}
use Rattle.rules.specs.AgeNitrate.{removed_by_bod, removable, covered}
use Rattle.rules.specs.ReactorSteps.{reactor_of}
use Rattle.rules.specs.Consent.{terms_of, every}
use Rattle.rules.specs.TermSteps.{nitrifies, term_removes, term_denitrified, term_covered}
use Rattle.rules.specs.Examining.{permitted, sheet_from, sheet_of, examine}
use Rattle.rules.specs.Choosing.{candidate_of, ChosenAccepted, Chosen}
use Rattle.rules.specs.TwoColumns.{TermColumns, Removes, TwoColumns}
use Rattle.rules.specs.declared.Plant.{Plant}
use Rattle.rules.specs.declared.Readings.{Readings}
use Rattle.rules.specs.declared.Concentrations.{Concentrations}
use Rattle.rules.specs.declared.Candidate.{Candidate}
use Rattle.rules.specs.declared.Sheet.{Sheet}
use Rattle.rules.specs.Results.{Acceptance}
use Rattle.rules.specs.declared.Reactor.{Reactor}
use Rattle.rules.specs.declared.Term.{Term}
use Rattle.rules.specs.Results.{Answer}
use Rattle.rules.proofs.Quotients.{le_down}
use Rattle.rules.proofs.AcceptedData.{accepted_none_due}
use Rattle.rules.proofs.Examined.{FractionKept, permitted_keeps, sheet_when_kept, kept_when_permitted}

-- what the dose leaves is covered by the tank's BOD
pub left_covered : (removes by_dose d : ℕ) → T (covered removes by_dose d) → 1000 * (d - by_dose) ≤ removes
unfolding covered
left_covered removes by_dose d t =
    let h : 1000 * d ≤ removes + 1000 * by_dose = leb→le (1000 * d) (removes + 1000 * by_dose) t in
    omega arith

-- the nitrate is covered exactly where it can be removed
pub covered_removable : (removes by_dose d : ℕ) → T (covered removes by_dose d) ↔ (d ≤ removable removes by_dose)
unfolding covered removable removed_by_bod
covered_removable removes by_dose d =
    let own = le_down removes 1000 (d - by_dose) (omega arith) in (
      λ t. let l : d - by_dose ≤ down removes 1000 = own.1 (omega (arith, left_covered removes by_dose d t)) in omega arith,
      λ h. let m : (d - by_dose) * 1000 ≤ removes = own.0 (omega arith) in le→leb (1000 * d) (removes + 1000 * by_dose) (omega arith),
    )

-- at this fraction the nitrate is covered
abbrev pub Covered : Plant → Concentrations → ℕ → Type 0
Covered p x f = T (covered (reactor_of p x f).removes (reactor_of p x f).removed_by_dose (reactor_of p x f).denitrified)

-- a fraction keeps its rules: 7, 15 and 16
pub record FractionKeeps (p : Plant) (x : Concentrations) (f : ℕ) : Type 0 where
  pub covered : Covered p x f
  pub nitrified : T (every (nitrifies p (reactor_of p x f)) (terms_of p.consent))
  pub terms_covered : T (every (term_covered p x (reactor_of p x f)) (terms_of p.consent))

pub fraction_keeps : (p : Plant) (x : Concentrations) (f : ℕ) → FractionKept p x f ↔ FractionKeeps p x f
fraction_keeps p x f = (
  λ t.
      let later = and_r own (nitrified && (terms_covered && true)) t in
      record {
        covered = and_l own (nitrified && (terms_covered && true)) t;
        nitrified = and_l nitrified (terms_covered && true) later;
        terms_covered = and_l terms_covered true (and_r nitrified (terms_covered && true) later);
      },
  λ k. and_i own (nitrified && (terms_covered && true)) k.covered (and_i nitrified (terms_covered && true) k.nitrified (and_i terms_covered true k.terms_covered tt)),
)
  where
    own : Bool
    own = covered (reactor_of p x f).removes (reactor_of p x f).removed_by_dose (reactor_of p x f).denitrified

    nitrified : Bool
    nitrified = every (nitrifies p (reactor_of p x f)) (terms_of p.consent)

    terms_covered : Bool
    terms_covered = every (term_covered p x (reactor_of p x f)) (terms_of p.consent)

-- a fraction that keeps its rules is covered
pub fraction_covered : (p : Plant) (x : Concentrations) (f : ℕ) → FractionKept p x f → Covered p x f
fraction_covered p x f t = ((fraction_keeps p x f).0 t).covered

-- terms that are covered keep the two columns
terms_columns : (p : Plant) (x : Concentrations) (reactor : Reactor) (l : List Term) → T (every (term_covered p x reactor) l) → TermColumns p x reactor l
unfolding term_covered
terms_columns p x reactor [] t = tt
terms_columns p x reactor (term ∷ later) t = (
  (covered_removable (term_removes p x reactor term) reactor.removed_by_dose (term_denitrified reactor term)).0
      (and_l (term_covered p x reactor term) (every (term_covered p x reactor) later) t),
  terms_columns p x reactor later (and_r (term_covered p x reactor term) (every (term_covered p x reactor) later) t),
)

-- The law of the two columns, of every permitted candidate: for the design and in every term of the consent.
pub two_columns : (p : Plant) (x : Concentrations) (y : Candidate) → T (permitted p x y) → Removes p x y.fraction
two_columns p x y t =
    let reactor = reactor_of p x y.fraction in
    let kept = (fraction_keeps p x y.fraction).0 ((permitted_keeps p x y).0 t).fraction in
    record {
      design = (covered_removable reactor.removes reactor.removed_by_dose reactor.denitrified).0 kept.covered;
      terms = terms_columns p x reactor (terms_of p.consent) kept.terms_covered;
    }

-- The same of every sheet that examining gives: its data are accepted, its candidate is permitted, and its fraction is
-- the candidate's.
pub examined_columns : (p : Plant) (r : Readings) (y : Candidate) (a : Answer) → a ≡ examine p r y → TwoColumns p r a
unfolding sheet_of sheet_from
examined_columns p r y (Err n) e = tt
examined_columns p r y (Ok s) e =
    let sheet = (sheet_when_kept p r y s).0 (sym e) in
    let kept = (kept_when_permitted p r y).0 sheet.0 in
    let own : y.fraction ≡ s.fraction = ap (λ (t : Sheet). t.fraction) sheet.1 in
    (kept.0, rw own at (two_columns p _ y kept.1))

-- The same of every sheet that is chosen.
pub chosen_columns : (p : Plant) (r : Readings) (a : Answer) → Chosen p r a → TwoColumns p r a
unfolding candidate_of
chosen_columns p r (Err n) h = tt
chosen_columns p r (Ok s) h = go (accept p r) refl h
  where
    go : (o : Acceptance) → accept p r ≡ o → ChosenAccepted p (Ok s) o → TwoColumns p r (Ok s)
    go (Err n) q e = cc
    go (Ok x) q l =
        let given = accepted_none_due p r x q in
        (given.0, subst (λ (v : Concentrations). Removes p v s.fraction) (sym given.1) (two_columns p x (candidate_of s) l.allowed))

-- both clauses of what the calls promise, from the first
pub with_columns :
    (p : Plant) (r : Readings) (y : Candidate) (a : Answer) → a ≡ examine p r y → (a ≡ examine p r y) × TwoColumns p r a
with_columns p r y a e = (e, examined_columns p r y a e)

pub chosen_with_columns : (p : Plant) (r : Readings) (a : Answer) → Chosen p r a → Chosen p r a × TwoColumns p r a
chosen_with_columns p r a h = (h, chosen_columns p r a h)
