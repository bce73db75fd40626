-- The smaller of the two rates is the definition's. Assumes nothing.
use Rattle.std.proofs.Common.{◌*◌, arith, ap}
use Rattle.rules.specs.Rounding.{down}
use Rattle.rules.specs.SettlingSteps.{surface_overflow_rate}
use Rattle.settling.proofs.Limits.{rate_limits}
use Rattle.settling.proofs.surface_overflow_rate.Goals as goal

pub new-requires : goal.new-requires
unfolding surface_overflow_rate
new-requires c = omega (arith, rate_limits c.args.tank c.get.ensures.1, ap (λ loading. down (1000 * loading) c.get.result) c.volume_loading.ensures.0)

pub returns : goal.returns
unfolding surface_overflow_rate
returns c = rw (← c.get.ensures.0) (omega (arith, ap (λ loading. down (1000 * loading) c.get.result) c.volume_loading.ensures.0))
