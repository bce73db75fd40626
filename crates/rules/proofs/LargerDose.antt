-- A larger dose never loses a permitted candidate. In the way by BOD a choice with it is never larger, and of a sheet it moves oxygen
-- and transfer alone; in the way by COD it adds sludge. Assumes nothing.
use mathlib.Core.Path.{◌≡◌, refl, ap, sym, subst, ◌∙◌}
use Prim.Native.Nat.{ℕ, ◌+◌, ◌*◌, ◌≤◌}
use native.Mathlib.Omega.{arith}
use lib.Dec.{T, leb→le, le→leb}
use lib.Ieee.Fits.{and_i, and_l, and_r}
use lib.ListN.{take}
use Rattle.std.specs.Prelude.{Ok, Err}
use Rattle.rules.specs.Rounding.{down}
use Rattle.rules.specs.Limits.{most_dose}
use Rattle.rules.specs.Rules.{all_kept}
use Rattle.rules.specs.PlantData.{within, all_within, figures_without_dose, plant_in_range}
use Rattle.rules.specs.Consent.{terms_of}
use Rattle.rules.specs.Accepting.{values_of, rules_after_figures, data_rules, accept}
use Rattle.rules.specs.AgeNitrate.{safety_factor, aerobic_age, sludge_age, corrected_age, removes, removed_by_dose, covered}
use Rattle.rules.specs.ReactorSteps.{carbon_sludge_in, sludge_production, reactor_by, reactor_dosed, reactor_of}
use Rattle.rules.specs.SettlingSteps.{settling_of}
use Rattle.rules.specs.AerationSteps.{aeration_by, aeration_saving, aeration_of}
use Rattle.rules.specs.TermSteps.{term_share, nitrifies, term_fraction, term_removes, term_denitrified, term_covered}
use Rattle.rules.specs.Examining.{total_of, sheet_from, sheet_of, permitted}
use Rattle.rules.specs.Answers.{sheet_figures}
use Rattle.rules.specs.Choosing.{candidate_total, ChosenAccepted, Chosen}
use Rattle.rules.specs.WithoutDose.{with_dose}
use Rattle.rules.specs.LooserLimits.{DesignAtMost}
use Rattle.rules.specs.declared.Plant.{Plant}
use Rattle.rules.specs.declared.Readings.{Readings}
use Rattle.rules.specs.declared.Concentrations.{Concentrations}
use Rattle.rules.specs.declared.Candidate.{Candidate}
use Rattle.rules.specs.declared.Way.{Way}
use Rattle.rules.specs.declared.Reactor.{Reactor}
use Rattle.rules.specs.declared.Term.{Term}
use Rattle.rules.specs.declared.Sheet.{Sheet}
use Rattle.rules.specs.Results.{Acceptance}
use Rattle.rules.specs.Results.{Answer}
use Rattle.rules.proofs.Tests.{within_between}
use Rattle.rules.proofs.AcceptedData.{accepted_none_due, none_due_accepted}
use Rattle.rules.proofs.Examined.{permitted_keeps}
use Rattle.rules.proofs.EveryTerm.{every_weaker}
use Rattle.rules.proofs.NitrateColumns.{fraction_keeps}
use Rattle.rules.proofs.WiderChoice.{wider_choice}
use Rattle.rules.proofs.NoDose.{in_range_with_dose}

-- a larger dose covers what a smaller one covers
pub larger_covers :
    (own m n d : ℕ) → m ≤ n → T (covered own (removed_by_dose m) d) → T (covered own (removed_by_dose n) d)
unfolding covered removed_by_dose
larger_covers own m n d h t =
    let c : 1000 * d ≤ own + 1000 * down m 5 = leb→le (1000 * d) (own + 1000 * down m 5) t in
    le→leb (1000 * d) (own + 1000 * down n 5) (omega arith)

-- and in a term
larger_covers_term :
    (p : Plant) (x : Concentrations) (f : ℕ) (term : Term) (m n : ℕ)
    → m ≤ n
    → T (term_covered (with_dose m p) x (reactor_of (with_dose m p) x f) term)
    → T (term_covered (with_dose n p) x (reactor_of (with_dose n p) x f) term)
unfolding with_dose reactor_of reactor_dosed reactor_by removed_by_dose term_share term_fraction term_removes term_denitrified term_covered
larger_covers_term p x f term m n h t =
    let reactor = reactor_of p x f in
    larger_covers (term_removes p x reactor term) m n (term_denitrified reactor term) h t

-- A larger dose never loses a permitted candidate.
pub larger_dose :
    (p : Plant) (x : Concentrations) (y : Candidate) (m n : ℕ)
    → m ≤ n
    → T (permitted (with_dose m p) x y)
    → T (permitted (with_dose n p) x y)
unfolding with_dose reactor_of reactor_dosed reactor_by removed_by_dose settling_of term_share nitrifies term_fraction term_removes term_denitrified
larger_dose p x y m n h t =
    let k = (permitted_keeps (with_dose m p) x y).0 t in
    let own = (fraction_keeps (with_dose m p) x y.fraction).0 k.fraction in
    let reactor = reactor_of p x y.fraction in
    (permitted_keeps (with_dose n p) x y).1
    (record {
      grid = k.grid;
      fraction =
          (fraction_keeps (with_dose n p) x y.fraction).1
          (record {
            covered = larger_covers reactor.removes m n reactor.denitrified h own.covered;
            nitrified = own.nitrified;
            terms_covered =
                every_weaker (term_covered (with_dose m p) x (reactor_of (with_dose m p) x y.fraction)) (term_covered (with_dose n p) x (reactor_of (with_dose n p) x y.fraction))
                (terms_of p.consent)
                (λ term c. larger_covers_term p x y.fraction term m n h c)
                own.terms_covered;
          });
      tank = k.tank;
    })

-- by BOD the carbon sludge does not know the dose
same_carbon :
    (way : Way) (flow : ℕ) (x : Concentrations) (m n u : ℕ)
    → way ≡ Way.Bod
    → carbon_sludge_in way flow x m u ≡ carbon_sludge_in way flow x n u
unfolding carbon_sludge_in
same_carbon Way.Bod flow x m n u e = refl
same_carbon Way.Cod flow x m n u e = cc

module _ (p : Plant) (x : Concentrations) (y : Candidate) (n : ℕ) (bod : p.way ≡ Way.Bod) where
  -- the reactor with any other carbon sludge
  with_carbon : ℕ → Reactor
  with_carbon carbon =
      reactor_by (removes p.way p.process x y.fraction p.design_temperature) (λ (u : ℕ). carbon) p.dose p x y.fraction

  corrected : ℕ
  corrected = corrected_age (sludge_age (aerobic_age (safety_factor p.load) p.design_temperature) y.fraction) p.design_temperature

  own : carbon_sludge_in p.way p.flow x n corrected ≡ carbon_sludge_in p.way p.flow x p.dose corrected
  own = same_carbon p.way p.flow x n p.dose corrected bod

  -- By BOD the first thirteen figures of a sheet, up to recirculation, do not know the dose: oxygen and transfer alone do.
  pub sheet_but_oxygen : take 13 (sheet_figures (sheet_of (with_dose n p) x y)) ≡ take 13 (sheet_figures (sheet_of p x y))
  unfolding with_carbon corrected with_dose sheet_figures sheet_of sheet_from total_of reactor_of reactor_dosed reactor_by sludge_production settling_of aeration_of aeration_saving aeration_by
  sheet_but_oxygen =
      let tank = settling_of p y.return_ratio y.thickening in
      let air = aeration_of p x (reactor_of p x y.fraction) in
      ap (λ (carbon : ℕ). take 13 (sheet_figures (sheet_from p y (with_carbon carbon) tank air))) own

  -- nor does the total
  same_total : candidate_total (with_dose n p) x y ≡ candidate_total p x y
  unfolding with_carbon corrected with_dose candidate_total total_of reactor_of reactor_dosed reactor_by sludge_production settling_of
  same_total = ap (λ (carbon : ℕ). total_of p (with_carbon carbon) (settling_of p y.return_ratio y.thickening)) own

accepted_with : (p : Plant) (r : Readings) (x : Concentrations) (m n : ℕ) → n ≤ most_dose → accept (with_dose m p) r ≡ Ok x → accept (with_dose n p) r ≡ Ok x
unfolding with_dose data_rules figures_without_dose values_of
accepted_with p r x m n h e =
    let given = accepted_none_due (with_dose m p) r x e in
    let later = all_kept (rules_after_figures p r) in
    let plant = subst T (in_range_with_dose (with_dose m p)) (and_l (plant_in_range (with_dose m p)) later given.0) in
    let figures = and_l (all_within (figures_without_dose p)) (within 0 most_dose m) plant in
    let dosed = subst T (sym (in_range_with_dose (with_dose n p))) (and_i (all_within (figures_without_dose p)) (within 0 most_dose n) figures ((within_between 0 most_dose n).1 (record { least = omega arith; most = h }))) in
    none_due_accepted (with_dose n p) r
    (and_i (plant_in_range (with_dose n p)) later dosed (and_r (plant_in_range (with_dose m p)) later given.0))
    ∙ ap Ok given.1

-- By BOD, where there is a design with a dose, there is one with every larger dose up to the largest, and no larger.
pub larger_dose_choice :
    (p : Plant) (r : Readings) (m n : ℕ) (s : Sheet) (a : Answer)
    → p.way ≡ Way.Bod
    → m ≤ n
    → n ≤ most_dose
    → Chosen (with_dose m p) r (Ok s)
    → Chosen (with_dose n p) r a
    → DesignAtMost s.total a
larger_dose_choice p r m n s a bod h k c d = go (accept (with_dose m p) r) refl c
  where
    go :
        (o : Acceptance) → accept (with_dose m p) r ≡ o → ChosenAccepted (with_dose m p) (Ok s) o → DesignAtMost s.total a
    go (Err i) q e = cc
    go (Ok x) q l =
        wider_choice (with_dose m p) (with_dose n p) x s a
        (record {
          permits = λ y t. larger_dose p x y m n h t;
          total = λ y. let e = same_total p x y m bod in let f = same_total p x y n bod in omega arith;
        })
        l
        (subst (λ (o : Acceptance). ChosenAccepted (with_dose n p) a o) (accepted_with p r x m n k q) d)
