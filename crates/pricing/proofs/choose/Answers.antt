-- `choose` meets its contract: the answer keeps demand 3 and is priced. Assumes nothing.
use Rattle.pricing.proofs.Volumes.{chosen_volumes}
use Rattle.pricing.proofs.choose.Goals as goal

pub price-requires : goal.price-requires
price-requires c = chosen_volumes c.args.plant c.args.readings c.choose.result c.choose.ensures.chosen

pub returns : goal.returns
returns c = record { choice = c.choose.result; chosen = c.choose.ensures.chosen; priced_choice = c.price.ensures }
