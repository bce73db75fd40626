-- `day_value` meets its contract, case by case of what the conversion gives. Assumes nothing.
use Rattle.std.proofs.Common.{arith}
use Rattle.loads.proofs.Counting.{value_within, value_above, value_none}
use Rattle.loads.proofs.day_value.Goals as goal

pub returns-in-Ok-clause-value : goal.returns-in-Ok-clause-value
returns-in-Ok-clause-value c = value_within c.args.most c.args.x c.requires c.in-Ok.n c.in-Ok.ensures (omega arith)

pub returns-in_default-clause-value : goal.returns-in_default-clause-value
returns-in_default-clause-value c = value_above c.args.most c.args.x c.requires c.in-Ok.n c.in-Ok.ensures (omega arith)

pub returns-in_default-2-clause-value : goal.returns-in_default-2-clause-value
returns-in_default-2-clause-value c = value_none c.args.most c.args.x c.requires _ c.in_default.ensures
