-- The columns, the number, the sheet and the price follow from the answer. Assumes nothing.
use Rattle.rules.proofs.PriceLaws.{priced_examined, priced_examined_columns}
use Rattle.pewgull.proofs.examine_priced.Goals as goal

pub returns-clause-columns : goal.returns-clause-columns
returns-clause-columns c = priced_examined_columns c.args.plant c.args.readings c.args.candidate c.args.tariff c.examine.result c.examine.ensures

pub returns-clause-numbered : goal.returns-clause-numbered
returns-clause-numbered c = priced_examined c.args.plant c.args.readings c.args.candidate c.args.tariff c.examine.result c.examine.ensures
