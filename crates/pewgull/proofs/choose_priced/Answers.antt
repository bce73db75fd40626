-- The columns, the number, the sheet and the price follow from the answer. Assumes nothing.
use Rattle.rules.proofs.PriceLaws.{priced_chosen, priced_chosen_columns}
use Rattle.pewgull.proofs.choose_priced.Goals as goal

pub returns-clause-columns : goal.returns-clause-columns
returns-clause-columns c = priced_chosen_columns c.args.plant c.args.readings c.args.tariff c.choose.result c.choose.ensures

pub returns-clause-numbered : goal.returns-clause-numbered
returns-clause-numbered c = priced_chosen c.args.plant c.args.readings c.args.tariff c.choose.result c.choose.ensures
