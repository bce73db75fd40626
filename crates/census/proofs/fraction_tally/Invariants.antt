-- The tally is that of the fractions passed.
use Rattle.std.proofs.Common.{◌-◌}
use Rattle.rules.specs.Limits.{least_fraction}
use Rattle.census.specs.Tallies.{fraction_count, Tally}
use Rattle.census.proofs.fraction_tally.Given as goal

abbrev pub invariant-fraction : goal.invariant-fraction
invariant-fraction l = Tally (fraction_count l.accepted.plant l.accepted.concentrations (l.f - least_fraction)) l.tally
