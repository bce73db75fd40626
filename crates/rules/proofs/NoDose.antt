-- A dose of 0 changes no acceptance, no sheet, no refusal and no choice, against the steps without a dose. That those do not
-- look at the dose is in StepsWithoutDose.antt. Assumes nothing.
use mathlib.Core.Path.{◌≡◌, refl, ap, ap₂, sym, ◌∙◌}
use mathlib.Core.Bool.{Bool, ◌&&◌, and_assoc, and-true}
use mathlib.Core.List.{List, [], ◌∷◌, ◌++◌}
use Prim.Native.Nat.{ℕ, ◌+◌, ◌*◌}
use native.Mathlib.Omega.{arith}
use lib.Dec.{leb}
use Rattle.rules.specs.Limits.{most_dose}
use Rattle.rules.specs.Rules.{rule, verdict}
use Rattle.rules.specs.PlantData.{within, Figure, all_within, figure, figures_without_dose, plant_figures, plant_in_range}
use Rattle.rules.specs.Consent.{terms_of, every}
use Rattle.rules.specs.Accepting.{rules_after_figures, data_rules}
use Rattle.rules.specs.AgeNitrate.{removed_by_bod, removed_by_dose, removable, covered}
use Rattle.rules.specs.ReactorSteps.{reactor_by, reactor_dosed, reactor_of}
use Rattle.rules.specs.SettlingSteps.{settling_of}
use Rattle.rules.specs.AerationSteps.{denitrified_by_bod, aeration_saving, aeration_of}
use Rattle.rules.specs.TermSteps.{nitrifies, term_removes, term_denitrified, term_covered}
use Rattle.rules.specs.Examining.{sheet_from, sheet_of, fraction_rules, tank_rules, grid_rule, candidate_rules}
use Rattle.rules.specs.OtherSteps.{SameAnswers}
use Rattle.rules.specs.WithoutDose.{data_rules_without_dose, covered_by_bod, term_covered_by_bod, rules_without_dose, sheet_without_dose, steps_without_dose}
use Rattle.rules.specs.declared.Plant.{Plant}
use Rattle.rules.specs.declared.Readings.{Readings}
use Rattle.rules.specs.declared.Concentrations.{Concentrations}
use Rattle.rules.specs.declared.Candidate.{Candidate}
use Rattle.rules.specs.declared.Reactor.{Reactor}
use Rattle.rules.specs.declared.Term.{Term}
use Rattle.rules.specs.declared.Refusal.{Refusal}
use Rattle.rules.proofs.OtherAnswers.{same_answers}

-- one figure more at a table's end
within_last : (l : List Figure) (n : Figure) → all_within (l ++ (n ∷ [])) ≡ (all_within l && within n.least n.most n.value)
within_last [] n = and-true (within n.least n.most n.value)
within_last (m ∷ l) n = ap (λ (b : Bool). within m.least m.most m.value && b) (within_last l n) ∙ sym (and_assoc (within m.least m.most m.value) (all_within l) (within n.least n.most n.value))

-- rule 1: document 01's figures, and the dose
pub in_range_with_dose : (p : Plant) → plant_in_range p ≡ (all_within (figures_without_dose p) && within 0 most_dose p.dose)
unfolding plant_in_range plant_figures
in_range_with_dose p = within_last (figures_without_dose p) (figure 0 most_dose p.dose)

-- the cover at a dose of 0 is K × C ≥ 1000 × D
pub covered_without_dose : (removes d : ℕ) → covered removes 0 d ≡ covered_by_bod removes d
unfolding covered covered_by_bod
covered_without_dose removes d = ap (leb (1000 * d)) (let e : removes + 1000 * 0 ≡ removes = omega arith in e)

-- and the right column is what the tank's BOD removes
pub removable_without_dose : (removes : ℕ) → removable removes 0 ≡ removed_by_bod removes
unfolding removable
removable_without_dose removes = omega arith

-- at a dose of 0 the whole nitrate is left to the tank's BOD
all_left : (d : ℕ) → denitrified_by_bod d 0 ≡ d
unfolding denitrified_by_bod
all_left d = omega arith

-- the reactor is the one without a dose
no_dosed : (p : Plant) (x : Concentrations) (f : ℕ) → p.dose ≡ 0 → reactor_of p x f ≡ reactor_dosed 0 p x f
unfolding reactor_of
no_dosed p x f e = ap (λ (n : ℕ). reactor_dosed n p x f) e

removes_none : (p : Plant) (x : Concentrations) (f : ℕ) → (reactor_dosed 0 p x f).removed_by_dose ≡ 0
unfolding reactor_dosed reactor_by removed_by_dose
removes_none p x f = refl

-- so in a term, and in every term
term_without_dose :
    (p : Plant) (x : Concentrations) (reactor : Reactor) (term : Term)
    → reactor.removed_by_dose ≡ 0
    → term_covered p x reactor term ≡ term_covered_by_bod p x reactor term
unfolding term_covered term_covered_by_bod
term_without_dose p x reactor term e =
    ap (λ (n : ℕ). covered (term_removes p x reactor term) n (term_denitrified reactor term)) e
    ∙ covered_without_dose (term_removes p x reactor term) (term_denitrified reactor term)

terms_without_dose :
    (p : Plant) (x : Concentrations) (reactor : Reactor) (l : List Term)
    → reactor.removed_by_dose ≡ 0
    → every (term_covered p x reactor) l ≡ every (term_covered_by_bod p x reactor) l
terms_without_dose p x reactor [] e = refl
terms_without_dose p x reactor (term ∷ later) e = ap₂ ◌&&◌ (term_without_dose p x reactor term e) (terms_without_dose p x reactor later e)

data_rules_lem : (p : Plant) (r : Readings) → p.dose ≡ 0 → data_rules p r ≡ data_rules_without_dose p r
unfolding data_rules data_rules_without_dose
data_rules_lem p r e =
    ap (λ (b : Bool). rule Refusal.PlantData b ∷ rules_after_figures p r)
    (in_range_with_dose p
    ∙ (ap (λ (n : ℕ). all_within (figures_without_dose p) && within 0 most_dose n) e ∙ and-true (all_within (figures_without_dose p))))

candidate_rules_lem : (p : Plant) (x : Concentrations) (y : Candidate) → p.dose ≡ 0 → candidate_rules p x y ≡ rules_without_dose p x y
unfolding candidate_rules rules_without_dose
candidate_rules_lem p x y e =
    let reactor = reactor_dosed 0 p x y.fraction in
    let tank = tank_rules p (settling_of p y.return_ratio y.thickening) in
    let nitrified = rule Refusal.Nitrification (every (nitrifies p reactor) (terms_of p.consent)) in
    let none = removes_none p x y.fraction in
    ap (λ (own : Reactor). grid_rule p y ∷ (fraction_rules p x own ++ tank)) (no_dosed p x y.fraction e)
    ∙ (ap (λ (b : Bool). grid_rule p y ∷ rule Refusal.Nitrate b ∷ nitrified ∷ rule Refusal.TermNitrate (every (term_covered p x reactor) (terms_of p.consent)) ∷ tank)
    (ap (λ (n : ℕ). covered reactor.removes n reactor.denitrified) none ∙ covered_without_dose reactor.removes reactor.denitrified)
    ∙ ap (λ (b : Bool). grid_rule p y ∷ rule Refusal.Nitrate (covered_by_bod reactor.removes reactor.denitrified) ∷ nitrified ∷ rule Refusal.TermNitrate b ∷ tank)
    (terms_without_dose p x reactor (terms_of p.consent) none))

same_sheet : (p : Plant) (x : Concentrations) (y : Candidate) → p.dose ≡ 0 → sheet_of p x y ≡ sheet_without_dose p x y
unfolding sheet_of sheet_without_dose aeration_of
same_sheet p x y e =
    let reactor = reactor_dosed 0 p x y.fraction in
    let tank = settling_of p y.return_ratio y.thickening in
    ap (λ (own : Reactor). sheet_from p y own tank (aeration_of p x own)) (no_dosed p x y.fraction e)
    ∙ ap (λ (d : ℕ). sheet_from p y reactor tank (aeration_saving d p x reactor))
    (ap (denitrified_by_bod reactor.denitrified) (removes_none p x y.fraction) ∙ all_left reactor.denitrified)

-- For all data: a dose of 0 changes no acceptance, no sheet, no refusal and no choice.
pub no_dose : (p : Plant) → p.dose ≡ 0 → SameAnswers steps_without_dose p
unfolding steps_without_dose
no_dose p e =
    same_answers steps_without_dose p (λ r. ap verdict (data_rules_lem p r e)) (λ x y. ap verdict (candidate_rules_lem p x y e)) (λ x y. same_sheet p x y e)
