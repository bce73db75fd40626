-- Wrong explainers, each on data where it answers otherwise than the definition, by computation. Assumes nothing.
use mathlib.Core.Path.{◌≡◌, refl, ap}
use mathlib.Core.List.{List, [], ◌∷◌}
use Prim.Native.Nat.{ℕ}
use borrow.Author.Tests.{eqb-false}
use lib.ListN.{take, drop, replicate}
use Rattle.std.specs.Prelude.{Result, Err}
use Rattle.rules.specs.Answers.{answer_number}
use Rattle.rules.specs.Explanations.{explanation_figures, explained_figures}
use Rattle.rules.specs.Explaining.{explain}
use Rattle.rules.specs.Consent.{no_term}
use Rattle.rules.specs.WithoutDose.{with_dose}
use Rattle.rules.specs.WithoutTerms.{with_consent}
use Rattle.rules.specs.Cases.{case_a, readings_a, candidate}
use Rattle.rules.specs.declared.Plant.{Plant}
use Rattle.rules.specs.declared.Consent.{Consent}
use Rattle.rules.specs.declared.Readings.{Readings}
use Rattle.rules.specs.declared.Candidate.{Candidate}
use Rattle.rules.specs.declared.Refusal.{Refusal}
use Rattle.rules.proofs.Computing.{steps}
use Rattle.rules.specs.declared.Explained.{Explained}

-- an explainer's answer differs from the definition's somewhere
abbrev Wrong : (Plant → Readings → Candidate → Result Explained Refusal) → Type 0
Wrong answer = ((p : Plant) (r : Readings) (y : Candidate) → answer p r y ≡ explain p r y) → ⊥

-- it refuses every candidate: Case A's has figures
pub always_off_grid : Wrong (λ p r y. Err Refusal.OffGrid)
unfolding steps
always_off_grid e = eqb-false 6 0 refl (ap answer_number (e case_a readings_a (candidate 300 75 20)))

-- it explains one candidate whatever is asked: the return ratio 50 has another depth
pub one_candidate_explained : Wrong (λ p r y. explain p r (candidate 300 75 20))
unfolding steps
one_candidate_explained e = eqb-false 4_536 3_956 refl (ap (λ (x : Result Explained Refusal). (explanation_figures x).depth) (e case_a readings_a (candidate 300 50 20)))

abbrev verdict_at : ℕ → ℕ
verdict_at f = answer_number (explanation_figures (explain case_a readings_a (candidate f 75 20))).verdict

-- it finds no rule broken where one is: the fraction 299 is not covered
pub verdict_always_kept : (answer_number (explain case_a readings_a (candidate 299 75 20)) ≡ 0) × (verdict_at 299 ≡ 7)
unfolding steps
verdict_always_kept = (refl, refl)

-- the design's figures of the fraction 299 with a dose, in their order
abbrev dosed_figures : ℕ → List ℕ
dosed_figures dose = take 9 (explained_figures (explanation_figures (explain (with_dose dose case_a) readings_a (candidate 299 75 20))))

-- it leaves the dose out of the right column, or exchanges its parts: at a dose of 1,000 they are 25,800 and 200, and their sum
-- just covers 26,000; at 999 they do not
pub dosed_columns :
    (dosed_figures 1_000 ≡ 26_000 ∷ 25_800 ∷ 200 ∷ 26_000 ∷ 3_779 ∷ 378 ∷ 454 ∷ 4_536 ∷ 0 ∷ [])
    × (dosed_figures 999 ≡ 26_000 ∷ 25_800 ∷ 199 ∷ 25_999 ∷ 3_779 ∷ 378 ∷ 454 ∷ 4_536 ∷ 7 ∷ [])
unfolding steps
dosed_columns = (refl, refl)

-- one term, at 11 °C with a target of 12,000, and a dose of 1,500 that removes 300: nitrification needs 773 of the age, 227 is
-- left, and 23,000 of its 24,000 are removed by the tank's BOD; past the count there are zeros
abbrev cold : Consent
cold =
    record {
      count = 1;
      terms =
          record { first = record { month = 11; day = 1 }; last = record { month = 4; day = 30 }; temperature = 11; nitrate_target = 12_000 }
          ∷ no_term
          ∷ no_term
          ∷ no_term
          ∷ [];
    }

-- it shows the design's columns for a term's, leaves the dose out there, or looks past the count
pub term_columns :
    drop 8 (explained_figures (explanation_figures (explain (with_dose 1_500 (with_consent cold case_a)) readings_a (candidate 300 75 20))))
    ≡ 16 ∷ 773 ∷ 227 ∷ 24_000 ∷ 23_000 ∷ 23_300 ∷ replicate 15 0
unfolding steps
term_columns = refl

-- the figures in another order on the page: Case A's, the verdict ninth, then twenty zeros for the terms
pub figures_in_order :
    explained_figures (explanation_figures (explain case_a readings_a (candidate 300 75 20)))
    ≡ 26_000 ∷ 26_000 ∷ 0 ∷ 26_000 ∷ 3_779 ∷ 378 ∷ 454 ∷ 4_536 ∷ 0 ∷ replicate 20 0
unfolding steps
figures_in_order = refl
