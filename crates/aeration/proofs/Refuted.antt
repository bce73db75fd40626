-- Wrong programs that document 01 names, refuted on concrete data: what they compute is not what the steps define.
-- Assumes nothing.
use mathlib.Core.Path.{◌≡◌}
use Prim.Native.Nat.{◌*◌}
use borrow.Author.Tests.{eqb-false}
use mathlib.Core.Path.{refl}
use Rattle.rules.specs.Rounding.{up}
use Rattle.rules.specs.AgeNitrate.{capacity_uptake}
use Rattle.rules.specs.AerationSteps.{aeration_uptake, saved_oxygen}

-- one rounding of o for both the capacity and the aeration: at U = 10 they are 561 and 562
pub one_uptake : aeration_uptake 10 ≡ capacity_uptake 10 → ⊥
unfolding aeration_uptake capacity_uptake
one_uptake e = eqb-false 562 561 refl e

-- saved oxygen rounded up: at Q = 1 and D = 1 it is 0, rounded up 1
pub saved_rounded_up : saved_oxygen 1 1 ≡ up (29 * 1 * 1) 10_000 → ⊥
unfolding saved_oxygen
saved_rounded_up e = eqb-false 0 1 refl e
