-- Bulking sludge: up to an index of 180 the rule changes nothing; 17 is due exactly where the figures are in range and the
-- index is above 180, whatever the readings, and then every call answers it. Assumes nothing.
use mathlib.Core.Logic.{◌↔◌}
use mathlib.Core.Path.{◌≡◌, refl, ap, ap₂, sym, subst, ◌∙◌}
use mathlib.Core.Bool.{Bool, true, false, cond}
use mathlib.Core.List.{List, [], ◌∷◌, ◌++◌}
use Prim.Native.Nat.{◌≤◌, ◌<◌}
use borrow.Author.Tests.{le-leb, lt-leb, leb-false}
use lib.Dec.{T, leb}
use Rattle.std.specs.Prelude.{Err}
use denote.Floats.{is_true}
use Rattle.rules.specs.Limits.{most_index}
use Rattle.rules.specs.Rules.{Rule, rule, verdict}
use Rattle.rules.specs.PlantData.{plant_in_range}
use Rattle.rules.specs.Accepting.{values_of, readings_rules, terms_rule, data_rules, accept_by, accept}
use Rattle.rules.specs.Examining.{judge_accepted, examine}
use Rattle.rules.specs.Choosing.{ChosenAccepted}
use Rattle.rules.specs.Explaining.{explain_accepted, explain}
use Rattle.rules.specs.Census.{census_accepted, census}
use Rattle.rules.specs.Bulking.{data_rules_without_bulking, steps_without_bulking, SameWithoutBulking, BulkingRefused}
use Rattle.rules.specs.declared.Plant.{Plant}
use Rattle.rules.specs.declared.Readings.{Readings}
use Rattle.rules.specs.declared.Refusal.{Refusal}
use Rattle.rules.specs.Results.{Verdict}
use Rattle.rules.proofs.RuleLists.{numbered, broken_verdict, first_broken_among}
use Rattle.rules.proofs.AcceptedData.{data_refused_when_due}
use Rattle.rules.proofs.OtherAnswers.{same_answers}

-- what is asked after 17
abbrev rest : Plant → Readings → List Rule
rest p r = readings_rules p r ++ (terms_rule p ∷ [])

-- the verdict on the data, by the tests of 1 and 17
abbrev first : Plant → Readings → Bool → Bool → Verdict
first p r a b = cond a (cond b (verdict (rest p r)) (Err Refusal.Bulking)) (Err Refusal.PlantData)

by_tests :
    (p : Plant) (r : Readings) (a b : Bool)
    → plant_in_range p ≡ a
    → leb p.sludge_volume_index most_index ≡ b
    → verdict (data_rules p r) ≡ first p r a b
unfolding data_rules
by_tests p r a b d e = ap₂ (first p r) d e

data_rules_lem : (p : Plant) (r : Readings) → p.sludge_volume_index ≤ most_index → verdict (data_rules p r) ≡ verdict (data_rules_without_bulking p r)
unfolding data_rules_without_bulking
data_rules_lem p r h = by_tests p r (plant_in_range p) true refl (le-leb p.sludge_volume_index most_index h)

-- For all data with an index up to 180: every answer is what it was.
pub up_to_most : (p : Plant) → p.sludge_volume_index ≤ most_index → SameWithoutBulking p
unfolding steps_without_bulking explain census
up_to_most p h =
    let same = same_answers steps_without_bulking p (λ r. data_rules_lem p r h) (λ x y. refl) (λ x y. refl) in
    record { answers = same; explained = λ r y. ap (explain_accepted p y) (same.acceptance r); counted = λ r. ap (census_accepted p) (same.acceptance r) }

due : (p : Plant) (r : Readings) → T (plant_in_range p) → most_index < p.sludge_volume_index → accept p r ≡ Err Refusal.Bulking
unfolding accept accept_by
due p r t h =
    ap (λ (v : Verdict). accept_by v (values_of p r))
    (by_tests p r true false (is_true (plant_in_range p) t) (lt-leb p.sludge_volume_index most_index h))

-- For all data with the figures in range and an index above 180: every call answers 17.
pub bulking_refused : (p : Plant) → T (plant_in_range p) → most_index < p.sludge_volume_index → BulkingRefused p
unfolding examine judge_accepted explain explain_accepted census census_accepted
bulking_refused p t h =
    record {
      acceptance = λ r. due p r t h;
      examined = λ r y. ap (judge_accepted p y) (due p r t h);
      chosen = λ r a. (λ c. subst (ChosenAccepted p a) (due p r t h) c, λ e. subst (ChosenAccepted p a) (sym (due p r t h)) e);
      explained = λ r y. ap (explain_accepted p y) (due p r t h);
      counted = λ r. ap (census_accepted p) (due p r t h);
    }

-- 17 is due exactly there: the readings and the consent are not looked at.
pub bulking_due : (p : Plant) (r : Readings) → (accept p r ≡ Err Refusal.Bulking) ↔ (T (plant_in_range p) × (most_index < p.sludge_volume_index))
bulking_due p r = (λ e. go (plant_in_range p) (leb p.sludge_volume_index most_index) refl refl (broken e), λ h. due p r h.0 h.1)
  where
    broken : accept p r ≡ Err Refusal.Bulking → verdict (data_rules p r) ≡ Err Refusal.Bulking
    broken e = (broken_verdict (data_rules p r) Refusal.Bulking).0 ((data_refused_when_due p r Refusal.Bulking).0 e)

    -- 17 is not among the rules of such a list
    not_among : (l : List Rule) → (T (numbered 17 l) → ⊥) → verdict l ≡ Err Refusal.Bulking → ⊥
    not_among l none v = none (first_broken_among l Refusal.Bulking ((broken_verdict l Refusal.Bulking).1 v))

    go :
        (a b : Bool)
        → plant_in_range p ≡ a
        → leb p.sludge_volume_index most_index ≡ b
        → verdict (data_rules p r) ≡ Err Refusal.Bulking
        → T (plant_in_range p) × (most_index < p.sludge_volume_index)
    go true false d e v = (subst T (sym d) tt, leb-false _ _ e)
    go true true d e v = absurd (not_among (rest p r) (λ t. t) (sym (by_tests p r true true d e) ∙ v))
    go false b d e v = absurd (not_among (rule Refusal.PlantData false ∷ []) (λ t. t) (sym (by_tests p r false b d e) ∙ v))
