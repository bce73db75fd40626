-- The figures on the page are those of the request's candidate. Assumes nothing.
use Rattle.std.proofs.Common.{refl, ◌∙◌}
use Rattle.putting.specs.Outcomes.{on_data}
use Rattle.interface.specs.Calls.{explained}
use Rattle.interface.proofs.explain.Goals as goal

pub returns : goal.returns
unfolding on_data explained
returns c =
    rw (← c.in_ok-data.ensures.data, ← c.candidate-candidate.ensures)
    (c.put_explanation.ensures ∙ rw c.explain-answer.ensures.value refl)
