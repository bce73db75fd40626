-- `hourly_oxygen` meets its contract: carbon takes the carbon peak and nitrification the nitrogen peak. Assumes nothing.
use Rattle.std.proofs.Common.{refl}
use Rattle.rules.specs.AerationSteps.{hourly_oxygen}
use Rattle.aeration.proofs.hourly_oxygen.Goals as goal

pub returns : goal.returns
unfolding hourly_oxygen
returns c =
    rw (
      c.new.ensures,
      c.max.ensures,
      c.round_up-at_carbon_peak.ensures,
      c.round_up-at_nitrogen_peak.ensures,
      c.get-net.ensures.0,
      c.get-nitrification.ensures.0,
      c.from-carbon_peak.ensures,
      c.from-nitrogen_peak.ensures,
    ) refl
