-- A term of the consent at the design temperature with the design's target changes no answer, wherever it stands in the list.
-- Assumes nothing.
use mathlib.Core.Logic.{◌↔◌}
use mathlib.Core.Path.{◌≡◌, refl, ap, ap₂, sym, subst, ◌∙◌}
use mathlib.Core.Bool.{Bool, true, false, ◌&&◌}
use mathlib.Core.List.{List, [], ◌∷◌, ◌++◌}
use Prim.Native.Nat.{◌≤◌}
use native.Mathlib.Omega.{arith}
use borrow.Author.Tests.{le-leb}
use lib.Dec.{T}
use lib.Ieee.Fits.{and_i}
use Rattle.std.specs.Prelude.{Ok, Err}
use denote.Floats.{is_true}
use Rattle.rules.specs.Limits.{least_term_temperature, most_temperature, least_nitrate_target, most_nitrate_target, most_terms}
use Rattle.rules.specs.Rules.{Rule, rule, verdict}
use Rattle.rules.specs.PlantData.{within, plant_figures, figures_without_dose, plant_in_range}
use Rattle.rules.specs.Consent.{date_valid, term_valid, terms_of, every, consent_valid}
use Rattle.rules.specs.Accepting.{values_of, readings_rules, bulking_rule, data_rules, accept}
use Rattle.rules.specs.AgeNitrate.{covered, on_grid}
use Rattle.rules.specs.ReactorSteps.{sludge_production, reactor_by, reactor_dosed, reactor_of}
use Rattle.rules.specs.SettlingSteps.{settling_of}
use Rattle.rules.specs.AerationSteps.{aeration_by, aeration_saving, aeration_of}
use Rattle.rules.specs.TermSteps.{term_share, nitrifies, term_fraction, term_removes, term_covered}
use Rattle.rules.specs.Examining.{total_of, sheet_from, sheet_of, tank_rules, grid_rule, candidate_rules, permitted, examine, examination_rules}
use Rattle.rules.specs.Choosing.{candidate_of, candidate_total, NotBeforeBy, NotBefore, ChosenAccepted, Chosen}
use Rattle.rules.specs.OtherSteps.{Calculation, total_with, ChosenAcceptedWith, SameAnswers}
use Rattle.rules.specs.WithoutTerms.{with_consent}
use Rattle.rules.specs.Ranges.{GridFraction}
use Rattle.rules.specs.declared.Plant.{Plant}
use Rattle.rules.specs.declared.Consent.{Consent}
use Rattle.rules.specs.declared.Term.{Term}
use Rattle.rules.specs.declared.Readings.{Readings}
use Rattle.rules.specs.declared.Concentrations.{Concentrations}
use Rattle.rules.specs.declared.Candidate.{Candidate}
use Rattle.rules.specs.declared.Reactor.{Reactor}
use Rattle.rules.specs.declared.Refusal.{Refusal}
use Rattle.rules.specs.Results.{Verdict}
use Rattle.rules.specs.Results.{Acceptance}
use Rattle.rules.specs.Results.{Answer}
use Rattle.rules.proofs.Tests.{within_between, all_between}
use Rattle.rules.proofs.RangeFacts.{grid_ranges}
use Rattle.rules.proofs.EveryTerm.{every_inserted}
use Rattle.rules.proofs.Examined.{examine_by_rules}
use Rattle.rules.proofs.ChosenOnce.{same_order}
use Rattle.rules.proofs.OtherAnswers.{same_answers}
use Rattle.rules.proofs.DesignFraction.{AtDesign, nitrified_at, covered_at}

-- two consents of which the first has one term more, at the design's temperature and target, somewhere in its list
pub record OneMore (p : Plant) (more fewer : Consent) : Type 0 where
  pub before : List Term
  pub term : Term
  pub later : List Term
  pub at_design : AtDesign p term
  pub with : terms_of more ≡ before ++ (term ∷ later)
  pub without : terms_of fewer ≡ before ++ later
  pub more_count : more.count ≤ most_terms
  pub fewer_count : fewer.count ≤ most_terms

module _ (p : Plant) (more fewer : Consent) (h : OneMore p more fewer) where
  -- a test that the term passes
  passed : (test : Term → Bool) → test h.term ≡ true → every test (terms_of more) ≡ every test (terms_of fewer)
  passed test e =
      ap (every test) h.with ∙ (every_inserted test h.before h.term h.later e ∙ sym (ap (every test) h.without))

  -- where the plant's figures are in range, the term is valid
  term_valid_lem : T (plant_in_range p) → term_valid h.term ≡ true
  unfolding plant_in_range plant_figures figures_without_dose term_valid
  term_valid_lem t =
      let b = all_between (plant_figures p) t in
      let at = h.at_design in
      let warm : T (within least_term_temperature most_temperature p.design_temperature) = (within_between least_term_temperature most_temperature p.design_temperature).1 (record { least = omega (arith, b.1.1.1.0.least); most = b.1.1.1.0.most }) in
      let target : T (within least_nitrate_target most_nitrate_target p.nitrate_target) = (within_between least_nitrate_target most_nitrate_target p.nitrate_target).1 b.1.1.1.1.1.1.0 in
      let days = date_valid h.term.first && date_valid h.term.last in
      rw (at.temperature, at.target)
      (is_true (days && within least_term_temperature most_temperature p.design_temperature && within least_nitrate_target most_nitrate_target p.nitrate_target)
      (and_i (days && within least_term_temperature most_temperature p.design_temperature) (within least_nitrate_target most_nitrate_target p.nitrate_target)
      (and_i days (within least_term_temperature most_temperature p.design_temperature) at.days warm)
      target))

  consents_valid : T (plant_in_range p) → consent_valid more ≡ consent_valid fewer
  unfolding consent_valid
  consents_valid t =
      ap₂ ◌&&◌ (le-leb more.count most_terms h.more_count ∙ sym (le-leb fewer.count most_terms h.fewer_count))
      (passed term_valid (term_valid_lem t))

  data_rules_lem : (r : Readings) → verdict (data_rules (with_consent more p) r) ≡ verdict (data_rules (with_consent fewer p) r)
  unfolding data_rules with_consent plant_in_range plant_figures figures_without_dose values_of
  data_rules_lem r = go (plant_in_range p) refl
    where
      go : (b : Bool) → plant_in_range p ≡ b → verdict (data_rules (with_consent more p) r) ≡ verdict (data_rules (with_consent fewer p) r)
      go false e = rw e
      go true e = ap (λ (v : Bool). verdict (rule Refusal.PlantData (plant_in_range p) ∷ bulking_rule p ∷ (readings_rules p r ++ (rule Refusal.Terms v ∷ [])))) (consents_valid (subst T (sym e) tt))

  candidate_rules_lem : (x : Concentrations) (y : Candidate) → verdict (candidate_rules (with_consent more p) x y) ≡ verdict (candidate_rules (with_consent fewer p) x y)
  unfolding candidate_rules with_consent reactor_of reactor_dosed reactor_by settling_of sludge_production nitrifies term_share term_fraction term_removes term_covered
  candidate_rules_lem x y = go (on_grid p.tank y) refl
    where
      reactor : Reactor
      reactor = reactor_of p x y.fraction

      own : Bool
      own = covered reactor.removes reactor.removed_by_dose reactor.denitrified

      tank : List Rule
      tank = tank_rules p (settling_of p y.return_ratio y.thickening)

      rules : Bool → Bool → Bool → Verdict
      rules c a b = verdict (grid_rule p y ∷ rule Refusal.Nitrate c ∷ rule Refusal.Nitrification a ∷ rule Refusal.TermNitrate b ∷ tank)

      -- with the design covered, the term passes both tests
      both : GridFraction y.fraction → (c : Bool) → own ≡ c → rules c (every (nitrifies p reactor) (terms_of more)) (every (term_covered p x reactor) (terms_of more)) ≡ rules c (every (nitrifies p reactor) (terms_of fewer)) (every (term_covered p x reactor) (terms_of fewer))
      both g false e = refl
      both g true e =
          ap₂ (rules true) (passed (nitrifies p reactor) (nitrified_at p x y.fraction g h.term h.at_design))
          (passed (term_covered p x reactor) (covered_at p x y.fraction g h.term h.at_design ∙ e))

      go : (b : Bool) → on_grid p.tank y ≡ b → rules own (every (nitrifies p reactor) (terms_of more)) (every (term_covered p x reactor) (terms_of more)) ≡ rules own (every (nitrifies p reactor) (terms_of fewer)) (every (term_covered p x reactor) (terms_of fewer))
      go false e = rw e
      go true e = both ((grid_ranges p.tank y).0 (subst T (sym e) tt)).fraction own refl

  -- the steps of a plant with the second consent
  under_fewer : Calculation
  under_fewer =
      record {
        for_data = λ q r. data_rules (with_consent fewer q) r;
        for_candidate = λ q x y. candidate_rules (with_consent fewer q) x y;
        sheet = λ q x y. sheet_of (with_consent fewer q) x y;
      }

  same : SameAnswers under_fewer (with_consent more p)
  unfolding under_fewer with_consent sheet_of sheet_from total_of reactor_of reactor_dosed reactor_by sludge_production settling_of aeration_of aeration_saving aeration_by
  same = same_answers under_fewer (with_consent more p) data_rules_lem candidate_rules_lem (λ x y. refl)

  not_before :
      (x : Concentrations) (d y : Candidate)
      → NotBeforeBy (total_with under_fewer (with_consent more p) x) d y ↔ NotBefore (with_consent fewer p) x d y
  unfolding under_fewer with_consent sheet_of sheet_from candidate_total
  not_before x d y =
      let own = total_with under_fewer (with_consent more p) x in
      let fewer_total = candidate_total (with_consent fewer p) x in
      (λ n. same_order own fewer_total (λ z. refl) d y n, λ n. same_order fewer_total own (λ z. refl) d y n)

  chosen : (r : Readings) (a : Answer) → Chosen (with_consent more p) r a ↔ Chosen (with_consent fewer p) r a
  unfolding under_fewer with_consent accept permitted values_of
  chosen r a = (λ c. forth a (accept (with_consent fewer p) r) ((same.choice r a).0 c), λ c. (same.choice r a).1 (back a (accept (with_consent fewer p) r) c))
    where
      forth : (b : Answer) (o : Acceptance) → ChosenAcceptedWith under_fewer (with_consent more p) b o → ChosenAccepted (with_consent fewer p) b o
      forth b (Err n) e = e
      forth (Err n) (Ok x) e = e
      forth (Ok s) (Ok x) e =
          record { member = e.member; allowed = e.allowed; figures = e.figures; rivals = λ y g t. (not_before x (candidate_of s) y).0 (e.rivals y g t) }

      back : (b : Answer) (o : Acceptance) → ChosenAccepted (with_consent fewer p) b o → ChosenAcceptedWith under_fewer (with_consent more p) b o
      back b (Err n) e = e
      back (Err n) (Ok x) e = e
      back (Ok s) (Ok x) e =
          record { member = e.member; allowed = e.allowed; figures = e.figures; rivals = λ y g t. (not_before x (candidate_of s) y).1 (e.rivals y g t) }

  examined : (r : Readings) (y : Candidate) → examine (with_consent more p) r y ≡ examine (with_consent fewer p) r y
  unfolding under_fewer with_consent values_of examination_rules sheet_of sheet_from total_of reactor_of reactor_dosed reactor_by sludge_production settling_of aeration_of aeration_saving aeration_by
  examined r y = same.answer r y ∙ sym (examine_by_rules (with_consent fewer p) r y)

-- What two consents answer alike, for all readings and candidates.
pub record AlikeUnder (p : Plant) (more fewer : Consent) : Type 0 where
  pub acceptance : (r : Readings) → accept (with_consent more p) r ≡ accept (with_consent fewer p) r
  pub answer : (r : Readings) (y : Candidate) → examine (with_consent more p) r y ≡ examine (with_consent fewer p) r y
  pub choice : (r : Readings) (a : Answer) → Chosen (with_consent more p) r a ↔ Chosen (with_consent fewer p) r a

-- For all data: a term at the design temperature with the design's target changes no acceptance, no sheet, no refusal and no
-- choice, wherever it stands in the list.
pub design_term : (p : Plant) (more fewer : Consent) → OneMore p more fewer → AlikeUnder p more fewer
unfolding under_fewer with_consent accept values_of
design_term p more fewer h =
    record { acceptance = (same p more fewer h).acceptance; answer = examined p more fewer h; choice = chosen p more fewer h }
