-- `examine` meets its contract: the candidate's answer is priced. Assumes nothing.
use mathlib.Core.Path.{ap, ◌∙◌}
use Rattle.rules.specs.Price.{priced, examine_priced}
use Rattle.pricing.proofs.Volumes.{examined_volumes}
use Rattle.pricing.proofs.examine.Goals as goal

pub price-requires : goal.price-requires
price-requires c = examined_volumes c.args.plant c.args.readings c.args.candidate c.examine.result c.examine.ensures.value

pub returns : goal.returns
unfolding examine_priced
returns c = c.price.ensures ∙ ap (priced c.args.tariff) c.examine.ensures.value
