-- What is put back and on the page is an advance of the state's sweep. Assumes nothing.
use Rattle.resuming.proofs.advance.Goals as goal

pub returns : goal.returns
returns c =
    rw (← c.in_ok-data.ensures.data)
    (c.advance-advanced.result, rw c.sweep_of.ensures at c.advance-advanced.ensures.advanced_from, c.put_progress.ensures)
