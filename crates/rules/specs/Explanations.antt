-- The number and the figures of an explanation, in their order. Assumes nothing.
use Rattle.std.specs.Prelude.{ℕ, List, [], ◌∷◌, Result, Ok, Err}
use Rattle.rules.specs.Answers.{answer_number}
use Rattle.rules.specs.declared.TermExplained.{TermExplained}
use Rattle.rules.specs.declared.Explained.{Explained}
use Rattle.rules.specs.declared.Refusal.{Refusal}
use Rattle.rules.specs.Sums.{values_from}
use Rattle.rules.specs.Limits.{most_terms}
use Rattle.words.specs.Bytes.{chunked}

-- where no term stands
abbrev pub no_term_explained : TermExplained
no_term_explained = record { aerobic_share = 0; fraction = 0; denitrified = 0; removed_by_bod = 0; removable = 0 }

-- the figures that an explanation carries: zeros where it is refused
unfoldable pub explanation_figures : Result Explained Refusal → Explained
explanation_figures (Ok e) = e
explanation_figures (Err n) =
    record {
      denitrified = 0;
      removed_by_bod = 0;
      removed_by_dose = 0;
      removable = 0;
      solids = 0;
      sludge_volume = 0;
      surface = 0;
      depth = 0;
      verdict = (Ok tt);
      terms = values_from 0 most_terms (λ i. no_term_explained);
    }

-- the figures of a term
unfoldable pub term_figures : TermExplained → List ℕ
term_figures e = e.aerobic_share ∷ e.fraction ∷ e.denitrified ∷ e.removed_by_bod ∷ e.removable ∷ []

-- the figures of an explanation in their order; the ninth is the number of the first rule of 7, 15, 16 and 8 to 10 that is
-- broken, or 0; then those of each term
unfoldable pub explained_figures : Explained → List ℕ
explained_figures e =
    e.denitrified
    ∷ e.removed_by_bod
    ∷ e.removed_by_dose
    ∷ e.removable
    ∷ e.solids
    ∷ e.sludge_volume
    ∷ e.surface
    ∷ e.depth
    ∷ answer_number e.verdict
    ∷ chunked term_figures e.terms
