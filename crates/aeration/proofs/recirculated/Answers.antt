-- `recirculated` meets its contract: the process that returns beyond its own flow is the pre-anoxic one. Assumes nothing.
use Rattle.std.proofs.Common.{◌≡◌, refl}
use Rattle.rules.specs.AerationSteps.{recirculation}
use Rattle.rules.specs.declared.Process.{Process}
use Rattle.aeration.proofs.recirculated.Goals as goal

pub returns-in-PreAnoxic : goal.returns-in-PreAnoxic
unfolding recirculation
returns-in-PreAnoxic c =
    let own : c.args.accepted.now.plant.process ≡ Process.PreAnoxic = c.in-PreAnoxic.is in
    rw (c.saturating_sub.ensures, c.round_up.ensures, c.get.ensures.0, c.from-target.ensures, own) refl
