-- The length is that of an answer that is chosen for the request's data. Assumes nothing.
use Rattle.measuring.proofs.choose.Goals as goal

pub returns-clause-value : goal.returns-clause-value
returns-clause-value c =
    rw (← c.in_ok-data.ensures.data)
    (c.choose.result, c.choose.ensures.chosen, c.measure.ensures.value)
