-- `Tanks::new` meets its contract: after the last thickening time every tank is in the table. Assumes nothing.
use native.Mathlib.Omega.{arith}
use Rattle.choosing.proofs.tanks.Tanks.new.Goals as goal

pub invariant_of-result : goal.invariant_of-result
invariant_of-result c =
    let to = c.time.invariant in
    record { filled = record { size = to.size; holds = λ i below time. to.holds i below (omega (arith, time, c.time-test.false)) } }
