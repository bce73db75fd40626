-- The places of the table that a flow's return ratios fill. Assumes nothing.
use Prim.Native.Nat.{ℕ, ◌+◌, ◌/◌, ◌≤◌, ◌<◌}
use native.Mathlib.Omega.{arith}
use Rattle.rules.specs.Limits.{least_ratio}
use Rattle.rules.specs.AgeNitrate.{largest_return_ratio}
use Rattle.rules.specs.Sweep.{times, per_fraction}
use Rattle.rules.specs.declared.TankFlow.{TankFlow}

pub ratio_most : (flow : TankFlow) (i : ℕ) → i < per_fraction flow → least_ratio + i / times ≤ largest_return_ratio flow
unfolding largest_return_ratio
ratio_most TankFlow.Horizontal i h = omega arith
ratio_most TankFlow.Vertical i h = omega arith
