-- The figures put are those of the explanation, or zeros. Assumes nothing.
use Rattle.std.proofs.Common.{refl, ◌∙◌}
use Rattle.words.specs.Bytes.{chunked}
use Rattle.rules.specs.Sums.{values_from}
use Rattle.rules.specs.Answers.{answer_number}
use Rattle.rules.specs.Explanations.{term_figures, explained_figures, explanation_figures}
use Rattle.interface.proofs.put_explanation.Goals as goal
use Rattle.interface.proofs.put_explanation.Goals.{in-Ok, in-Err}

pub returns : goal.returns
unfolding chunked values_from answer_number term_figures explained_figures explanation_figures
returns c =
    c.put_figures.ensures
    ∙ elim c.match-answer.branch [
      | in-Ok w ↦ rw (w.answer-is, w.figures-is, w.explained_figures-figures.ensures, w.in-Ok.is) refl
      | in-Err w ↦ rw (w.answer-is, w.figures-is, w.in-Err.is) refl
    ]
