-- The tanks of the thickening times that are passed are in the table.
use Rattle.std.proofs.Common.{◌-◌}
use Rattle.rules.specs.Limits.{least_time}
use Rattle.choosing.specs.Tanks.{FilledTo}
use Rattle.choosing.proofs.tanks.Tanks.new.Given as goal

abbrev pub invariant-time : goal.invariant-time
invariant-time l = FilledTo l.basis.data.plant (l.h - least_time) l.table
