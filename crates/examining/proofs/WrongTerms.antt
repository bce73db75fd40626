-- Wrong programs of the terms of the consent, each on data where it answers otherwise than the definition, by computation.
-- Assumes nothing.
use Prim.Native.Nat.{ℕ, ◌-◌, ◌*◌}
use mathlib.Core.Path.{◌≡◌, refl}
use mathlib.Core.Bool.{Bool, cond}
use mathlib.Core.List.{List, [], ◌∷◌}
use lib.Dec.{leb, ltb}
use borrow.Author.Tests.{eqb-false}
use Rattle.rules.specs.Rounding.{up}
use Rattle.rules.specs.Consent.{no_term, term_valid, terms_of}
use Rattle.rules.specs.Accepting.{accept}
use Rattle.rules.specs.AgeNitrate.{growth, corrected_age, capacity, covered}
use Rattle.rules.specs.ReactorSteps.{reactor_of}
use Rattle.rules.specs.TermSteps.{aerobic_share, term_share, nitrifies, term_fraction, term_covered}
use Rattle.rules.specs.Answers.{answer_number}
use Rattle.rules.specs.Cases.{variant, case_a, f32, readings_with, readings_a, concentrations_a}
use Rattle.rules.specs.WithoutDose.{with_dose, covered_by_bod, term_covered_by_bod}
use Rattle.rules.specs.WithoutTerms.{with_consent}
use Rattle.rules.specs.declared.Plant.{Plant}
use Rattle.rules.specs.declared.Process.{Process}
use Rattle.rules.specs.declared.TankFlow.{TankFlow}
use Rattle.rules.specs.declared.Removal.{Removal}
use Rattle.rules.specs.declared.Reactor.{Reactor}
use Rattle.rules.specs.declared.Term.{Term}
use Rattle.rules.specs.declared.Consent.{Consent}
use Rattle.rules.proofs.Computing.{steps}
use Rattle.examining.proofs.WrongExaminers.{Differ, answer_at}

-- a term of the whole year
abbrev term : ℕ → ℕ → Term
term temperature target =
    record { first = record { month = 1; day = 1 }; last = record { month = 12; day = 31 }; temperature = temperature; nitrate_target = target }

abbrev one : ℕ → ℕ → Consent
one temperature target = record { count = 1; terms = term temperature target ∷ no_term ∷ no_term ∷ no_term ∷ [] }

-- a term that is not covered, then one in which nitrification is lost
abbrev two : Consent
two = record { count = 2; terms = term 12 9_999 ∷ term 4 50_000 ∷ no_term ∷ no_term ∷ [] }

-- the number that a plant under a consent gets at a fraction, with return ratio 75 and thickening time 20
abbrev number_under : Plant → Consent → ℕ → ℕ
number_under p consent f = answer_number (answer_at (with_consent consent p) f 75 20)

abbrev reactor : ℕ → Reactor
reactor f = reactor_of case_a concentrations_a f

-- 16, or a sheet's 0, by a cover of one's own
abbrev sixteen_unless : Bool → ℕ
sixteen_unless covers = cond covers 0 16

-- 15 and 16 of the terms in turn
pub by_term : List Term → ℕ
by_term [] = 0
by_term (t ∷ later) = cond (nitrifies case_a (reactor 300) t) (cond (term_covered case_a concentrations_a (reactor 300) t) (by_term later) 16) 15

-- Case A with simultaneous denitrification and a target of 20,000: K is 85
abbrev simultaneous : Plant
simultaneous = variant 5_000 20_000 1_000 5_000 Process.Simultaneous TankFlow.Horizontal Removal.Scraper

abbrev simultaneous_reactor : Reactor
simultaneous_reactor = reactor_of simultaneous concentrations_a 300

pub record WrongTerms : Type 0 where
  -- it asks 15 and 16 term by term: the first term is not covered, but in the second nitrification is lost
  pub term_by_term : Differ (number_under case_a two 300) 15 (by_term (terms_of two))
  -- it refuses a difference of exactly 0: at 325 and 8 °C a is 12,156 and t 12,168; at 324 nitrification is lost
  pub zero_refused : Differ (number_under case_a (one 8 50_000) 325) 0 (cond (ltb (term_share case_a (reactor 325) (term 8 50_000)) 1000) 0 15)
  pub lost_before : number_under case_a (one 8 50_000) 324 ≡ 15
  -- it steps G down to 10 °C alone
  pub growth_held : Differ (number_under case_a (one 4 50_000) 300) 15 (cond (leb (aerobic_share (up (180 * 34 * growth 10) 1_000_000) 11_733) 1000) 0 15)
  -- it takes K of a fraction under 200, at 342 and 10 °C of 199; at 343 it is 200, and counts
  pub capacity_under_200 : Differ (number_under case_a (one 10 35_999) 342) 16 (sixteen_unless (covered (capacity Process.PreAnoxic 199 10 8_287 * 200_000) 0 1))
  pub capacity_at_200 : number_under case_a (one 10 35_999) 343 ≡ 0
  -- it takes 1000 − up(1000a / t), 680 at 20 °C, and not the smaller of that and f
  pub own_fraction : Differ (number_under case_a (one 20 7_999) 300) 16 (sixteen_unless (covered (capacity Process.PreAnoxic (1000 - term_share case_a (reactor 300) (term 20 7_999)) 20 16_610 * 200_000) 0 28_001))
  -- it raises Table 3 by the design temperature, 12 °C: at 20 °C K is 140, and 28,000 just covered
  pub raised_by_design : Differ (number_under case_a (one 20 8_000) 300) 0 (sixteen_unless (covered (capacity Process.PreAnoxic 300 12 9_524 * 200_000) 0 28_000))
  -- it takes U at the design temperature: at 11 °C K is 64 then, and 63 by the definition
  pub corrected_at_design : Differ (number_under simultaneous (one 11 23_300) 300) 16 (sixteen_unless (covered (capacity Process.Simultaneous (term_fraction simultaneous simultaneous_reactor (term 11 23_300)) 11 (corrected_age simultaneous_reactor.age 12) * 200_000) 0 12_700))
  -- it leaves the dose out: 5,000 removes the 1,000 that the tank's BOD does not
  pub dose_left_out : Differ (number_under (with_dose 5_000 case_a) (one 12 9_000) 300) 0 (sixteen_unless (term_covered_by_bod case_a concentrations_a (reactor 300) (term 12 9_000)))
  -- it looks at entries past the count: the second is no term
  pub past_the_count : Differ (answer_number (accept (with_consent (one 12 10_000) case_a) readings_a)) 0 (cond (term_valid no_term) 0 14)
  -- it asks 14 before 4
  pub terms_before_ratio : Differ (answer_number (accept (with_consent (one 3 10_000) case_a) (readings_with (f32 4_401 10)))) 4 (answer_number (accept (with_consent (one 3 10_000) case_a) readings_a))

pub wrong_terms : WrongTerms
unfolding steps by_term covered_by_bod term_covered_by_bod
wrong_terms =
    record {
      term_by_term = (refl, eqb-false _ _ refl);
      zero_refused = (refl, eqb-false _ _ refl);
      lost_before = refl;
      growth_held = (refl, eqb-false _ _ refl);
      capacity_under_200 = (refl, eqb-false _ _ refl);
      capacity_at_200 = refl;
      own_fraction = (refl, eqb-false _ _ refl);
      raised_by_design = (refl, eqb-false _ _ refl);
      corrected_at_design = (refl, eqb-false _ _ refl);
      dose_left_out = (refl, eqb-false _ _ refl);
      past_the_count = (refl, eqb-false _ _ refl);
      terms_before_ratio = (refl, eqb-false _ _ refl);
    }
