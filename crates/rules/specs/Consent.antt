-- Document 02, item 4, the terms of the consent: days and their order, the terms' ranges, and the lowest target in force on
-- a day. Assumes nothing.
use Rattle.std.specs.Prelude.{ℕ, min, Bool, true, cond, ◌&&◌, ◌||◌, List, [], ◌∷◌, leb, ltb, eqb, take, Result, Ok, Err, Option, Some, None}
use Rattle.rules.specs.PlantData.{within}
use Rattle.rules.specs.Limits.{least_term_temperature, most_temperature, least_nitrate_target, most_nitrate_target, most_terms}
use Rattle.rules.specs.declared.Date.{Date}
use Rattle.rules.specs.declared.Term.{Term}
use Rattle.rules.specs.declared.Consent.{Consent}
use Rattle.rules.specs.declared.Refusal.{Refusal}

-- the days of a month; 29 February is one
unfoldable pub days_of : ℕ → ℕ
days_of month = cond (eqb month 2) 29 (cond (eqb month 4 || eqb month 6 || eqb month 9 || eqb month 11) 30 31)

unfoldable pub date_valid : Date → Bool
date_valid d = within 1 12 d.month && within 1 (days_of d.month) d.day

-- a day comes no later in the year than another
unfoldable pub not_after : Date → Date → Bool
not_after a b = ltb a.month b.month || (eqb a.month b.month && leb a.day b.day)

-- a term runs on a day: from its first to its last, or over the new year where its last comes before its first
unfoldable pub in_force : Term → Date → Bool
in_force term d =
    cond (not_after term.first term.last)
    (not_after term.first d && not_after d term.last)
    (not_after term.first d || not_after d term.last)

-- the days, the temperature and the target of a term are in their ranges
unfoldable pub term_valid : Term → Bool
term_valid term =
    date_valid term.first
    && date_valid term.last
    && within least_term_temperature most_temperature term.temperature
    && within least_nitrate_target most_nitrate_target term.nitrate_target

-- the terms: entries past the count are not looked at
abbrev pub terms_of : Consent → List Term
terms_of c = take c.count c.terms

-- a consent without terms
abbrev pub no_term : Term
no_term =
    record {
      first = record { month = 0; day = 0 };
      last = record { month = 0; day = 0 };
      temperature = 0;
      nitrate_target = 0;
    }

abbrev pub no_terms : Consent
no_terms = record { count = 0; terms = no_term ∷ no_term ∷ no_term ∷ no_term ∷ [] }

-- every term passes a test
abbrev pub every : (Term → Bool) → List Term → Bool
every test [] = true
every test (term ∷ later) = test term && every test later

-- at most four terms, each in its ranges: the rule of refusal 14
unfoldable pub consent_valid : Consent → Bool
consent_valid c = leb c.count most_terms && every term_valid (terms_of c)

-- the lower of a target and of what the other terms have in force, if anything
abbrev pub lower_of : Option ℕ → ℕ → Option ℕ
lower_of (Some n) target = Some (min target n)
lower_of None target = Some target

-- the lowest target in force on a day, or none where no term runs
abbrev pub lowest_target : Date → List Term → Option ℕ
lowest_target d [] = None
lowest_target d (term ∷ later) = cond (in_force term d) (lower_of (lowest_target d later) term.nitrate_target) (lowest_target d later)

-- what the second call answers for any terms and date: 14 where they or the date are invalid
unfoldable pub target_on : Consent → Date → Result (Option ℕ) Refusal
target_on c d = cond (consent_valid c && date_valid d) (Ok (lowest_target d (terms_of c))) (Err Refusal.Terms)
