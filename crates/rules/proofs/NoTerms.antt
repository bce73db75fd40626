-- A consent without terms changes no acceptance, no sheet, no refusal and no choice, against the steps that know no terms.
-- Assumes nothing.
use mathlib.Core.Path.{◌≡◌, refl, ap, ◌∙◌}
use mathlib.Core.Bool.{Bool, true, ◌&&◌}
use mathlib.Core.List.{◌∷◌}
use Prim.Native.Nat.{ℕ}
use lib.Dec.{leb}
use lib.ListN.{take}
use Rattle.rules.specs.Limits.{most_terms}
use Rattle.rules.specs.Rules.{rule, verdict}
use Rattle.rules.specs.PlantData.{plant_in_range}
use Rattle.rules.specs.Consent.{term_valid, terms_of, every, consent_valid}
use Rattle.rules.specs.Accepting.{readings_rules, bulking_rule, terms_rule, data_rules}
use Rattle.rules.specs.AgeNitrate.{covered}
use Rattle.rules.specs.ReactorSteps.{reactor_of}
use Rattle.rules.specs.SettlingSteps.{settling_of}
use Rattle.rules.specs.TermSteps.{nitrifies, term_covered}
use Rattle.rules.specs.Examining.{tank_rules, grid_rule, candidate_rules}
use Rattle.rules.specs.OtherSteps.{SameAnswers}
use Rattle.rules.specs.WithoutTerms.{data_rules_without_terms, rules_without_terms, steps_without_terms}
use Rattle.rules.specs.declared.Plant.{Plant}
use Rattle.rules.specs.declared.Consent.{Consent}
use Rattle.rules.specs.declared.Term.{Term}
use Rattle.rules.specs.declared.Readings.{Readings}
use Rattle.rules.specs.declared.Concentrations.{Concentrations}
use Rattle.rules.specs.declared.Candidate.{Candidate}
use Rattle.rules.specs.declared.Refusal.{Refusal}
use Rattle.rules.proofs.RuleLists.{verdict_kept_last}
use Rattle.rules.proofs.OtherAnswers.{same_answers}

-- no term fails a test
pub none_fails : (test : Term → Bool) (c : Consent) → c.count ≡ 0 → every test (terms_of c) ≡ true
none_fails test c e = ap (λ (n : ℕ). every test (take n c.terms)) e

pub no_terms_valid : (c : Consent) → c.count ≡ 0 → consent_valid c ≡ true
unfolding consent_valid
no_terms_valid c e = ap (λ (b : Bool). leb c.count most_terms && b) (none_fails term_valid c e) ∙ ap (λ (n : ℕ). leb n most_terms && true) e

data_rules_lem : (p : Plant) (r : Readings) → p.consent.count ≡ 0 → verdict (data_rules p r) ≡ verdict (data_rules_without_terms p r)
unfolding data_rules data_rules_without_terms
data_rules_lem p r e = verdict_kept_last (rule Refusal.PlantData (plant_in_range p) ∷ bulking_rule p ∷ readings_rules p r) (terms_rule p) (no_terms_valid p.consent e)

candidate_rules_lem :
    (p : Plant) (x : Concentrations) (y : Candidate)
    → p.consent.count ≡ 0
    → verdict (candidate_rules p x y) ≡ verdict (rules_without_terms p x y)
unfolding candidate_rules rules_without_terms
candidate_rules_lem p x y e =
    let reactor = reactor_of p x y.fraction in
    let tank = tank_rules p (settling_of p y.return_ratio y.thickening) in
    let own = rule Refusal.Nitrate (covered reactor.removes reactor.removed_by_dose reactor.denitrified) in
    ap (λ (b : Bool). verdict (grid_rule p y ∷ own ∷ rule Refusal.Nitrification b ∷ rule Refusal.TermNitrate (every (term_covered p x reactor) (terms_of p.consent)) ∷ tank))
    (none_fails (nitrifies p reactor) p.consent e)
    ∙ ap (λ (b : Bool). verdict (grid_rule p y ∷ own ∷ rule Refusal.Nitrification true ∷ rule Refusal.TermNitrate b ∷ tank))
    (none_fails (term_covered p x reactor) p.consent e)

-- For all data: a consent without terms changes no acceptance, no sheet, no refusal and no choice.
pub no_terms_lem : (p : Plant) → p.consent.count ≡ 0 → SameAnswers steps_without_terms p
unfolding steps_without_terms
no_terms_lem p e = same_answers steps_without_terms p (λ r. data_rules_lem p r e) (λ x y. candidate_rules_lem p x y e) (λ x y. refl)
