-- The tanks of this thickening time are in the table up to the present return ratio, and nothing else has moved.
use Rattle.std.proofs.Common.{◌-◌}
use Rattle.rules.specs.Limits.{least_ratio, least_time}
use Rattle.choosing.specs.Tanks.{TimeFilledTo}
use Rattle.choosing.proofs.tanks.fill.Given as goal

abbrev pub invariant-ratio : goal.invariant-ratio
invariant-ratio l = TimeFilledTo l.thickened.accepted.now.plant (l.thickened.time - least_time) (l.r - least_ratio) l.fn.table l.table
