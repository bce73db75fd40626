-- The index on the page, with its number, is that of the answer for the request's tanks and span. Assumes nothing.
use Rattle.standing.proofs.built.Goals as goal

pub returns : goal.returns
returns c =
    rw (← c.in_ok-data.ensures.data)
    (c.built-answer.result, rw (← c.existing_of-existing.ensures, ← c.span_of-span.ensures) c.built-answer.ensures, c.put_value.ensures)
