-- The tally is that of the tanks of the thickening times passed, and in the present one of the return ratios passed.
use Rattle.std.proofs.Common.{◌+◌, ◌-◌}
use Rattle.rules.specs.Limits.{least_ratio, least_time}
use Rattle.census.specs.Tallies.{tank_count, Tally}
use Rattle.census.proofs.Tallying.{tanks_passed}
use Rattle.census.proofs.tank_tally.Given as goal

abbrev pub invariant-ratio : goal.invariant-ratio
invariant-ratio l = Tally (tanks_passed l.accepted.plant (l.last + 1 - least_ratio) l.h l.r) l.tally

abbrev pub invariant-time : goal.invariant-time
invariant-time l = Tally (tank_count l.accepted.plant (l.last + 1 - least_ratio) (l.h - least_time)) l.tally
