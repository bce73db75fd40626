-- What the census tells of choosing, and what its call promises: the count of 0 is 0 exactly when no candidate of the grid is
-- permitted, and then choosing answers 5. Assumes nothing.
use mathlib.Core.Logic.{◌↔◌, inl, inr}
use mathlib.Core.Path.{◌≡◌, refl, sym, ap, ◌∙◌, subst}
use mathlib.Core.List.{List}
use Prim.Native.Nat.{ℕ}
use native.Mathlib.Omega.{arith}
use lib.Dec.{T}
use Rattle.std.specs.Prelude.{Ok, Err, Result}
use Rattle.rules.specs.Sums.{values_from}
use Rattle.rules.specs.Rules.{all_kept}
use Rattle.rules.specs.Accepting.{values_of, data_rules, accept}
use Rattle.rules.specs.Examining.{permitted, judge}
use Rattle.rules.specs.Answers.{refusal_number, answer_number}
use Rattle.rules.specs.Choosing.{candidate_of, grid, ChosenAmong, ChosenAccepted, Chosen}
use Rattle.rules.specs.Census.{one, counted, answer_numbers, census_accepted, census, CensusOutcome, census_counts}
use Rattle.rules.specs.declared.Plant.{Plant}
use Rattle.rules.specs.declared.Readings.{Readings}
use Rattle.rules.specs.declared.Concentrations.{Concentrations}
use Rattle.rules.specs.declared.Candidate.{Candidate}
use Rattle.rules.specs.declared.Refusal.{Refusal}
use Rattle.rules.specs.Results.{Acceptance}
use Rattle.rules.specs.Results.{Answer}
use Rattle.rules.proofs.RuleOrder.{refusal_number_between}
use Rattle.rules.proofs.AcceptedData.{accepted_none_due, none_due_accepted, data_refused_when_due}
use Rattle.rules.proofs.Examined.{judge_permitted, judge_sheet}
use Rattle.rules.proofs.GridSums.{grid_zero}
use Rattle.rules.proofs.CensusLaws.{one_other}
use Rattle.rules.proofs.OutcomeLaws.{zeros}

-- ---- no design

-- an answer's number is 0 exactly when the candidate is permitted
number_permitted : (p : Plant) (x : Concentrations) (y : Candidate) → (one (answer_number (judge p x y)) 0 ≡ 0) ↔ (T (permitted p x y) → ⊥)
unfolding answer_number
number_permitted p x y = (forth, λ h. back (judge p x y) refl h)
  where
    forth : one (answer_number (judge p x y)) 0 ≡ 0 → T (permitted p x y) → ⊥
    forth e t =
        let z : ◌≡◌ {A = ℕ} 1 0 = sym (ap (λ (a : Answer). one (answer_number a) 0) (judge_permitted p x y t)) ∙ e in
        omega arith

    back : (a : Answer) → judge p x y ≡ a → (T (permitted p x y) → ⊥) → one (answer_number a) 0 ≡ 0
    back (Ok s) e h = absurd (h ((judge_sheet p x y s).0 e).0)
    back (Err n) e h = one_other (refusal_number n) 0 (λ z. let l = refusal_number_between n in omega arith)

-- the count of 0 is 0 exactly when no candidate of the grid is permitted
pub none_permitted : (p : Plant) (x : Concentrations) → (counted p x 0 ≡ 0) ↔ ((y : Candidate) → grid p y → T (permitted p x y) → ⊥)
unfolding counted
none_permitted p x = (
  λ e y on. (number_permitted p x y).0 ((grid_zero p.tank (λ y. one (answer_number (judge p x y)) 0)).0 e y on),
  λ h. (grid_zero p.tank (λ y. one (answer_number (judge p x y)) 0)).1 (λ y on. (number_permitted p x y).1 (h y on)),
)

-- of accepted data an answer that keeps demand 3 is 5 exactly when the count of 0 is 0
pub five_when_none : (p : Plant) (r : Readings) (a : Answer) → T (all_kept (data_rules p r)) → Chosen p r a → (a ≡ Err Refusal.NoDesign) ↔ (counted p (values_of p r) 0 ≡ 0)
five_when_none p r a kept chosen = go a (subst (ChosenAccepted p a) (none_due_accepted p r kept) chosen)
  where
    x : Concentrations
    x = values_of p r

    go : (a : Answer) → ChosenAmong p x (grid p) a → (a ≡ Err Refusal.NoDesign) ↔ (counted p x 0 ≡ 0)
    go (Ok s) least = (
      λ e. cc,
      λ e. absurd ((none_permitted p x).0 e (candidate_of s) least.member least.allowed),
    )
    go (Err n) none = (λ e. (none_permitted p x).1 none.1, λ e. ap Err none.0)

-- ---- what the call promises

pub census_outcome :
    (p : Plant) (r : Readings) (c : Result (List ℕ) Refusal) → c ≡ census p r → CensusOutcome p r (answer_number c) (census_counts c)
unfolding census census_accepted census_counts answer_number
census_outcome p r c e = rw e (go (accept p r) refl)
  where
    go : (o : Acceptance) → accept p r ≡ o → CensusOutcome p r (answer_number (census_accepted p o)) (census_counts (census_accepted p o))
    go (Err n) q =
        inr (record { refusal = n; is_due = (data_refused_when_due p r n).0 q; numbered = refl; zeros = zeros 0 answer_numbers })
    go (Ok x) q =
        let given = accepted_none_due p r x q in
        inl (record { numbered = refl; kept = given.0; values = ap (λ (v : Concentrations). values_from 0 answer_numbers (counted p v)) (sym given.1) })
