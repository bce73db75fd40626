-- The answer on the page is that for the request's candidate. Assumes nothing.
use Rattle.std.proofs.Common.{refl, ◌∙◌}
use Rattle.putting.specs.Outcomes.{on_data}
use Rattle.interface.specs.Calls.{examined}
use Rattle.interface.proofs.examine.Goals as goal

pub returns : goal.returns
unfolding on_data examined
returns c =
    rw (← c.in_ok-data.ensures.data, ← c.candidate-candidate.ensures)
    (c.put.ensures ∙ rw c.examine-answer.ensures.value refl)
