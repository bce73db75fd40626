-- The answer on the page is that for the state's data. Assumes nothing.
use Rattle.std.proofs.Common.{refl, ◌∙◌}
use Rattle.putting.specs.Outcomes.{on_data}
use Rattle.resuming.specs.States.{looked_on}
use Rattle.resuming.proofs.examine.Goals as goal

pub returns : goal.returns
unfolding on_data looked_on
returns c = rw (← c.in_ok-data.ensures.data) (c.put.ensures ∙ rw (c.examine.ensures.value, c.sweep_of-sweep.ensures) refl)
