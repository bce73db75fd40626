-- The priced answer on the page is that of the request's candidate, for its tariff. Assumes nothing.
use Rattle.std.proofs.Common.{refl, ◌∙◌}
use Rattle.putting.specs.Outcomes.{on_data}
use Rattle.quoting.specs.Quotes.{examined_and_priced}
use Rattle.quoting.proofs.examine.Goals as goal

pub returns : goal.returns
unfolding on_data examined_and_priced
returns c =
    rw (← c.in_ok-data.ensures.data)
    (c.put_price.ensures ∙ rw (c.examine-answer.ensures, c.candidate-candidate.ensures, c.tariff_of-tariff.ensures) refl)
