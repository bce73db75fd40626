-- The works on the page is that for the request's data and split. Assumes nothing.
use Rattle.interface.proofs.works.Goals as goal

pub returns : goal.returns
returns c =
    rw (← c.in_ok-data.ensures.data, ← c.split-split.ensures)
    (c.works.result, c.works.ensures.works_chosen, c.put_works.ensures)
