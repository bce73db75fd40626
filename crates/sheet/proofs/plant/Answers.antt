-- `plant` meets its contract: the figures are Case A's, by computation. Assumes nothing.
use Rattle.rules.specs.Cases.{case_a, variant}
use Rattle.sheet.proofs.plant.Goals as goal

pub returns : goal.returns
unfolding case_a variant
returns c = rw c.consent.ensures
