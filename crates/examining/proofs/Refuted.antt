-- No wrong examiner that document 01 names answers as the definition does, by computation. Assumes nothing.
use mathlib.Core.Path.{refl, ap}
use borrow.Author.Tests.{eqb-false}
use Rattle.rules.specs.Answers
use Rattle.rules.specs.Cases
use Rattle.rules.proofs.Computing.{steps}
use Rattle.examining.proofs.WrongExaminers
use Rattle.examining.proofs.WrongExaminers.{Refuted}

pub refuted : Refuted
unfolding steps WrongExaminers.with_process
refuted =
    record {
      depth_before_surface = (refl, eqb-false _ _ refl);
      always_7 = λ e. eqb-false 7 0 refl (ap Answers.answer_number (e Cases.case_a Cases.readings_a (Cases.candidate 300 75 20)));
      always_case_a = λ e. eqb-false 0 7 refl (ap Answers.answer_number (e Cases.case_a Cases.readings_a (Cases.candidate 299 75 20)));
      case_a_for_candidates = (refl, eqb-false _ _ refl);
      case_a_for_plants = (refl, eqb-false _ _ refl);
      uptake_up = (refl, eqb-false _ _ refl);
      uptake_down = (refl, eqb-false _ _ refl);
      loading_kept = (refl, eqb-false _ _ refl);
      solids_not_raised = (refl, eqb-false _ _ refl);
    }
