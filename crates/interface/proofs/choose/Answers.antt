-- The answer on the page is one that is chosen for the request's data. Assumes nothing.
use Rattle.interface.proofs.choose.Goals as goal

pub returns : goal.returns
returns c =
    rw (← c.in_ok-data.ensures.data)
    (c.choose.result, c.choose.ensures.chosen, c.put.ensures)
