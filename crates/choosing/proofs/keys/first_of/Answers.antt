-- A later place with a lesser total takes the place of the best so far. Assumes nothing.
use mathlib.Core.Logic.{inr}
use Rattle.std.proofs.Common.{refl}
use Rattle.choosing.proofs.keys.first_of.Goals as goal

pub returns-in-Some-Some : goal.returns-in-Some-Some
returns-in-Some-Some c = rw (c.in-Some-Some.is-0, c.in-Some-Some.is-1) (inr (refl, c.if-b-a.true))
