-- The answer on the page is that of the line with the request's number. Assumes nothing.
use Rattle.interface.proofs.line.Goals as goal

pub returns : goal.returns
returns c =
    rw (← c.in_ok-data.ensures.data, ← c.split-split.ensures, ← c.line_number-number.ensures)
    (c.line-answer.result, c.line-answer.ensures.line_answered, c.put.ensures)
