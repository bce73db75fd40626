-- The steps without a dose (specs/WithoutDose.antt) do not look at the dose: with any other they answer the same. Assumes nothing.
use mathlib.Core.Logic.{◌↔◌}
use mathlib.Core.Path.{◌≡◌, refl}
use Prim.Native.Nat.{ℕ}
use Rattle.std.specs.Prelude.{Ok, Err}
use Rattle.rules.specs.PlantData.{figures_without_dose}
use Rattle.rules.specs.Accepting.{values_of}
use Rattle.rules.specs.ReactorSteps.{sludge_production, reactor_by, reactor_dosed}
use Rattle.rules.specs.SettlingSteps.{settling_of}
use Rattle.rules.specs.AerationSteps.{aeration_by, aeration_saving}
use Rattle.rules.specs.TermSteps.{term_share, nitrifies, term_fraction, term_removes, term_denitrified}
use Rattle.rules.specs.Examining.{total_of, sheet_from}
use Rattle.rules.specs.Choosing.{candidate_of, NotBeforeBy}
use Rattle.rules.specs.OtherSteps.{accept_with, permitted_with, examine_with, total_with, ChosenAcceptedWith, ChosenWith}
use Rattle.rules.specs.WithoutDose.{with_dose, data_rules_without_dose, term_covered_by_bod, rules_without_dose, sheet_without_dose, steps_without_dose}
use Rattle.rules.specs.declared.Plant.{Plant}
use Rattle.rules.specs.declared.Readings.{Readings}
use Rattle.rules.specs.declared.Concentrations.{Concentrations}
use Rattle.rules.specs.declared.Candidate.{Candidate}
use Rattle.rules.specs.Results.{Acceptance}
use Rattle.rules.specs.Results.{Answer}
use Rattle.rules.proofs.ChosenOnce.{same_order}

-- what the steps and the totals rest on
without_dose : Unit {0}
unfolding
    with_dose
    data_rules_without_dose
    figures_without_dose
    values_of
    term_share
    nitrifies
    term_fraction
    term_removes
    term_denitrified
    term_covered_by_bod
    rules_without_dose
    sheet_without_dose
    steps_without_dose
    sheet_from
    total_of
    reactor_by
    reactor_dosed
    sludge_production
    settling_of
    aeration_saving
    aeration_by
without_dose = tt

-- acceptance, "permitted", sheets and what examining answers
pub dose_not_looked_at :
    (p : Plant) (n : ℕ) (r : Readings) (x : Concentrations) (y : Candidate)
    → (accept_with steps_without_dose (with_dose n p) r ≡ accept_with steps_without_dose p r)
    × (permitted_with steps_without_dose (with_dose n p) x y ≡ permitted_with steps_without_dose p x y)
    × (sheet_without_dose (with_dose n p) x y ≡ sheet_without_dose p x y)
    × (examine_with steps_without_dose (with_dose n p) r y ≡ examine_with steps_without_dose p r y)
unfolding without_dose
dose_not_looked_at p n r x y = (refl, refl, refl, refl)

not_before :
    (p : Plant) (x : Concentrations) (n : ℕ) (d y : Candidate)
    → NotBeforeBy (total_with steps_without_dose (with_dose n p) x) d y ↔ NotBeforeBy (total_with steps_without_dose p x) d y
unfolding without_dose
not_before p x n d y =
    let one = total_with steps_without_dose p x in
    let other = total_with steps_without_dose (with_dose n p) x in
    (λ h. same_order other one (λ z. refl) d y h, λ h. same_order one other (λ z. refl) d y h)

-- and demand 3 over them
pub dose_not_looked_at_by_choice : (p : Plant) (n : ℕ) (r : Readings) (a : Answer) → ChosenWith steps_without_dose (with_dose n p) r a ↔ ChosenWith steps_without_dose p r a
unfolding without_dose
dose_not_looked_at_by_choice p n r a = go a (accept_with steps_without_dose p r)
  where
    go : (b : Answer) (o : Acceptance) → ChosenAcceptedWith steps_without_dose (with_dose n p) b o ↔ ChosenAcceptedWith steps_without_dose p b o
    go b (Err i) = (λ h. h, λ h. h)
    go (Err i) (Ok x) = (λ h. h, λ h. h)
    go (Ok s) (Ok x) = (
      λ h.
          record {
            member = h.member;
            allowed = h.allowed;
            figures = h.figures;
            rivals = λ y g t. (not_before p x n (candidate_of s) y).0 (h.rivals y g t);
          },
      λ h.
          record {
            member = h.member;
            allowed = h.allowed;
            figures = h.figures;
            rivals = λ y g t. (not_before p x n (candidate_of s) y).1 (h.rivals y g t);
          },
    )
