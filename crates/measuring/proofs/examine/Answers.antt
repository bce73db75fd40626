-- The length is that of the answer for the request's candidate. Assumes nothing.
use Rattle.std.proofs.Common.{refl, ◌∙◌}
use Rattle.putting.specs.Outcomes.{on_data}
use Rattle.measuring.specs.Lengths.{examined_length}
use Rattle.measuring.proofs.examine.Goals as goal

pub returns-clause-value : goal.returns-clause-value
unfolding on_data examined_length
returns-clause-value c =
    rw (← c.in_ok-data.ensures.data, ← c.candidate-candidate.ensures)
    (c.measure.ensures.value ∙ rw c.examine.ensures.value refl)
