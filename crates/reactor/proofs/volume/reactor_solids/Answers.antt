-- `reactor_solids` meets its contract: a step-feed process has the solids of its number of steps. Assumes nothing.
use Rattle.std.proofs.Common.{rules, refl}
use Rattle.rules.specs.ReactorSteps.{reactor_solids}
use Rattle.reactor.proofs.volume.reactor_solids.Goals as goal
use Rattle.reactor.proofs.volume.reactor_solids.Goals.{in-PreAnoxic, in-StepFeed-Two, in-StepFeed-Three}

pub returns-clause-value : goal.returns-clause-value
unfolding reactor_solids
returns-clause-value c =
    elim c.match-process.branch [
      | in-PreAnoxic w ↦ search rules
      | in-StepFeed-Two w ↦
          rw (c.new.ensures, w.new-is, c.get-solids.ensures.0, w.in-StepFeed-Two.is, rw w.in-StepFeed-Two.is at w.in-StepFeed-Two.field-0-is) refl
      | in-StepFeed-Three w ↦
          rw (c.new.ensures, w.new-is, c.get-solids.ensures.0, w.in-StepFeed-Three.is, rw w.in-StepFeed-Three.is at w.in-StepFeed-Three.field-0-is) refl
    ]
