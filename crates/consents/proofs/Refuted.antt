-- Wrong programs of the consent's days and targets, each on data where it answers otherwise than the definition, by computation.
-- Assumes nothing.
use Prim.Native.Nat.{ℕ}
use mathlib.Core.Path.{◌≡◌, refl}
use mathlib.Core.Bool.{true, false}
use mathlib.Core.List.{[], ◌∷◌}
use Rattle.rules.specs.Consent.{date_valid, no_term, target_on}
use Rattle.rules.specs.Answers.{answer_number, value_or_zero}
use Rattle.rules.specs.declared.Date.{Date}
use Rattle.rules.specs.declared.Term.{Term}
use Rattle.rules.specs.declared.Consent.{Consent}
use Rattle.rules.proofs.Computing.{steps}

abbrev on : ℕ → ℕ → Date
on month day = record { month = month; day = day }

abbrev term : Date → Date → ℕ → Term
term first last target = record { first = first; last = last; temperature = 8; nitrate_target = target }

-- the winter, from 1 November to 30 April, with a target of 13,000; and the months from January to June with 9,000
abbrev winter : Term
winter = term (on 11 1) (on 4 30) 13_000

abbrev spring : Term
spring = term (on 1 1) (on 6 30) 9_000

abbrev consent : ℕ → Term → Term → Consent
consent count a b = record { count = count; terms = a ∷ b ∷ no_term ∷ no_term ∷ [] }

abbrev target_at : Consent → Date → ℕ
target_at c d = value_or_zero (target_on c d)

abbrev number_at : Consent → Date → ℕ
number_at c d = answer_number (target_on c d)

pub record WrongDays : Type 0 where
  -- a term whose last day comes before its first is not empty: it runs over the new year, its ends included
  pub over_new_year :
      (target_at (consent 1 winter no_term) (on 12 31) ≡ 13_000)
      × (target_at (consent 1 winter no_term) (on 1 1) ≡ 13_000)
      × (target_at (consent 1 winter no_term) (on 11 1) ≡ 13_000)
      × (target_at (consent 1 winter no_term) (on 4 30) ≡ 13_000)
      × (target_at (consent 1 winter no_term) (on 10 31) ≡ 0)
      × (target_at (consent 1 winter no_term) (on 5 1) ≡ 0)
  -- 29 February is a day, 30 February and 31 April are none, of a term or asked for
  pub february :
      (date_valid (on 2 29) ≡ true) × (date_valid (on 2 30) ≡ false) × (date_valid (on 4 31) ≡ false)
      × (number_at (consent 1 (term (on 2 29) (on 2 29) 9_000) no_term) (on 2 29) ≡ 0)
      × (number_at (consent 1 (term (on 2 30) (on 3 1) 9_000) no_term) (on 2 29) ≡ 14)
      × (number_at (consent 1 winter no_term) (on 2 30) ≡ 14)
  -- no month 0 or 13, no day 0
  pub no_month : (date_valid (on 0 1) ≡ false) × (date_valid (on 13 1) ≡ false) × (date_valid (on 1 0) ≡ false) × (date_valid (on 12 31) ≡ true)
  -- equal days are one day, and not the whole year
  pub one_day :
      (target_at (consent 1 (term (on 3 1) (on 3 1) 9_000) no_term) (on 3 1) ≡ 9_000)
      × (target_at (consent 1 (term (on 3 1) (on 3 1) 9_000) no_term) (on 3 2) ≡ 0)
  -- neither the highest target nor that of the first term in force, which is 13,000
  pub lowest : target_at (consent 2 winter spring) (on 2 1) ≡ 9_000
  -- a term past the count is not looked at: neither its target nor its days
  pub past_the_count : (target_at (consent 1 winter spring) (on 2 1) ≡ 13_000) × (number_at (consent 1 winter no_term) (on 2 1) ≡ 0) × (number_at (consent 2 winter no_term) (on 2 1) ≡ 14)
  -- an invalid term that would not run on the day is still refused, and five terms are
  pub all_terms : (number_at (consent 2 winter (term (on 7 1) (on 8 32) 9_000)) (on 2 1) ≡ 14) × (number_at (consent 5 winter spring) (on 2 1) ≡ 14)

pub wrong_days : WrongDays
unfolding steps
wrong_days =
    record {
      over_new_year = (refl, refl, refl, refl, refl, refl);
      february = (refl, refl, refl, refl, refl, refl);
      no_month = (refl, refl, refl, refl);
      one_day = (refl, refl);
      lowest = refl;
      past_the_count = (refl, refl, refl);
      all_terms = (refl, refl);
    }
