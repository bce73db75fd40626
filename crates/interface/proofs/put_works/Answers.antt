-- The figures put are those of the works, or zeros. Assumes nothing.
use Rattle.std.proofs.Common.{refl, ◌∙◌}
use Rattle.words.specs.Bytes.{chunked}
use Rattle.rules.specs.Sums.{values_from}
use Rattle.rules.specs.Answers.{empty_sheet, sheet_figures}
use Rattle.rules.specs.Works.{no_sums, sum_figures, works_figures, works_sheets}
use Rattle.interface.proofs.put_works.Goals as goal
use Rattle.interface.proofs.put_works.Goals.{in-Ok, in_default}

pub returns : goal.returns
unfolding chunked values_from empty_sheet sheet_figures no_sums sum_figures works_figures works_sheets
returns c =
    c.put_figures.ensures
    ∙ elim c.match-answer.branch [
      | in-Ok w ↦ rw (w.answer-is, w.figures-is, w.figures.ensures, w.in-Ok.is) refl
      | in_default w ↦ rw (w.answer-is, w.figures-is, w.in_default.is) refl
    ]
