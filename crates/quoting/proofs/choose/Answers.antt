-- The priced answer on the page is that for the request's tariff. Assumes nothing.
use Rattle.quoting.proofs.choose.Goals as goal

pub returns : goal.returns
returns c =
    rw (← c.in_ok-data.ensures.data)
    (c.choose-answer.result, rw c.tariff_of-tariff.ensures at c.choose-answer.ensures, c.put_price.ensures)
