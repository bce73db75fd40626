-- The length is that of the answer of the line with the request's number. Assumes nothing.
use Rattle.measuring.proofs.line.Goals as goal

pub returns-clause-value : goal.returns-clause-value
returns-clause-value c =
    rw (← c.in_ok-data.ensures.data, ← c.split-split.ensures, ← c.line_number-number.ensures)
    (c.line.result, c.line.ensures.line_answered, c.measure.ensures.value)
