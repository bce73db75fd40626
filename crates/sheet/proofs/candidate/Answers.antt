-- `candidate` meets its contract: the candidate's three figures, by computation. Assumes nothing.
use Rattle.std.proofs.Common.{refl}
use Rattle.rules.specs.Cases.{candidate}
use Rattle.sheet.proofs.candidate.Goals as goal

pub returns : goal.returns
unfolding candidate
returns c = refl
