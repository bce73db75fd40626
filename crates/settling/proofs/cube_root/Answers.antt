-- With no halving left one possible root is left. Assumes nothing.
use Rattle.std.proofs.Common.{◌≡◌, ◌+◌, ◌^◌, ap, arith}
use Rattle.rules.proofs.CubeRoot.{cube_root_at}
use Rattle.settling.proofs.cube_root.Goals as goal

pub returns : goal.returns
returns c =
    let one : c.halving.high ≡ c.halving.low + 1 = omega (arith, c.halving.invariant.wide, ap (λ m. 2 ^ m) c.if-left-eq0.true) in
    cube_root_at _ _ (record { reached = c.halving.invariant.reached; passed = rw (← one) c.halving.invariant.passed })
