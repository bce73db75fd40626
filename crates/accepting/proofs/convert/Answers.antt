-- `convert` meets its contract: a plant's daily flow is a number above 0. Assumes nothing.
use mathlib.Core.Path.{refl}
use Rattle.accepting.proofs.convert.Goals as goal

pub returns : goal.returns
returns c = rw (c.convert_at_flow.ensures, c.get.ensures.0) refl
