-- What explains a candidate of accepted data that is on the grid, permitted or not: the two nitrate columns, here and in each
-- term of the consent, the figures that the rules 8 to 10 ask of, and the first rule that is broken. On the grid V is below
-- 1,000, so A and H always stand there. Assumes nothing.
use Rattle.std.specs.Prelude.{ℕ, cond, List, [], ◌∷◌, ◌++◌, leb, Result, Ok, Err, get_or}
use Rattle.rules.specs.Rules.{Rule, verdict}
use Rattle.rules.specs.Accepting.{accept, data_rules}
use Rattle.rules.specs.AgeNitrate.{on_grid, removed_by_bod, removable}
use Rattle.rules.specs.ReactorSteps.{reactor_of}
use Rattle.rules.specs.TermSteps.{term_share, term_fraction, term_removes, term_denitrified}
use Rattle.rules.specs.SettlingSteps.{settling_of}
use Rattle.rules.specs.Examining.{fraction_rules, tank_rules, grid_rule}
use Rattle.rules.specs.Explanations.{no_term_explained}
use Rattle.rules.specs.declared.Plant.{Plant}
use Rattle.rules.specs.declared.Readings.{Readings}
use Rattle.rules.specs.declared.Concentrations.{Concentrations}
use Rattle.rules.specs.declared.Candidate.{Candidate}
use Rattle.rules.specs.declared.Reactor.{Reactor}
use Rattle.rules.specs.declared.Settling.{Settling}
use Rattle.rules.specs.declared.Term.{Term}
use Rattle.rules.specs.declared.TermExplained.{TermExplained}
use Rattle.rules.specs.declared.Explained.{Explained}
use Rattle.rules.specs.declared.Refusal.{Refusal}
use Rattle.rules.specs.Results.{Acceptance}
use Rattle.rules.specs.Sums.{values_from}
use Rattle.rules.specs.Limits.{most_terms}
use Rattle.rules.specs.Consent.{no_term}

-- the explaining figures of a reactor in a term: what the rules 15 and 16 ask of
unfoldable pub term_explained : Plant → Concentrations → Reactor → Term → TermExplained
term_explained p x reactor term =
    record {
      aerobic_share = term_share p reactor term;
      fraction = term_fraction p reactor term;
      denitrified = term_denitrified reactor term;
      removed_by_bod = removed_by_bod (term_removes p x reactor term);
      removable = removable (term_removes p x reactor term) reactor.removed_by_dose;
    }

-- the same of the consent's entry i, or zeros past the count
unfoldable pub term_at : Plant → Concentrations → Reactor → ℕ → TermExplained
term_at p x reactor i = cond (leb p.consent.count i) no_term_explained (term_explained p x reactor (get_or p.consent.terms i no_term))

-- the explaining figures of a reactor and a settling tank, and the verdict on them
unfoldable pub explained_by : Plant → Concentrations → Reactor → Settling → Explained
explained_by p x reactor settling =
    record {
      denitrified = reactor.denitrified;
      removed_by_bod = removed_by_bod reactor.removes;
      removed_by_dose = reactor.removed_by_dose;
      removable = removable reactor.removes reactor.removed_by_dose;
      solids = settling.solids;
      sludge_volume = settling.sludge_volume;
      surface = settling.surface;
      depth = settling.depth;
      verdict = verdict (fraction_rules p x reactor ++ tank_rules p settling);
      terms = values_from 0 most_terms (term_at p x reactor);
    }

-- the same of a candidate
unfoldable pub candidate_explained : Plant → Concentrations → Candidate → Explained
candidate_explained p x y = explained_by p x (reactor_of p x y.fraction) (settling_of p y.return_ratio y.thickening)

-- a candidate of accepted data: 6, else its figures
unfoldable pub explain_candidate : Plant → Concentrations → Candidate → Result Explained Refusal
explain_candidate p x y =
    cond (on_grid p.tank y) (Ok (candidate_explained p x y)) (Err Refusal.OffGrid)

unfoldable pub explain_accepted : Plant → Candidate → Acceptance → Result Explained Refusal
explain_accepted p y (Err n) = Err n
explain_accepted p y (Ok x) = explain_candidate p x y

-- what explaining answers
unfoldable pub explain : Plant → Readings → Candidate → Result Explained Refusal
explain p r y = explain_accepted p y (accept p r)

-- the rules that explaining goes through: those of the data, then 6
unfoldable pub explanation_rules : Plant → Readings → Candidate → List Rule
explanation_rules p r y = data_rules p r ++ (grid_rule p y ∷ [])
