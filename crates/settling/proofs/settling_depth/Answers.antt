-- Each product on the way has a law for its limit, the parts together are at most 20,000, and they are the definition's. Assumes
-- nothing.
use Rattle.std.proofs.Common.{◌≤◌, ◌∙◌, arith}
use Rattle.settling.proofs.Limits.{thickening_product, depth_sum}
use Rattle.settling.proofs.Bounds.{depth_parts}
use Rattle.settling.proofs.settling_depth.Goals as goal

pub overflow_mul-get-3 : goal.overflow_mul-get-3
overflow_mul-get-3 c = grind (arith, thickening_product)

pub round_up-thickened-requires : goal.round_up-thickened-requires
round_up-thickened-requires c = grind (arith, thickening_product)

pub overflow_add-separation-3 : goal.overflow_add-separation-3
overflow_add-separation-3 c = grind (arith, depth_sum)

pub new-requires : goal.new-requires
new-requires c =
    let raised : 3_000 ≤ c.max.result = omega (arith, c.max.ensures) in
    grind (arith, depth_sum)

pub returns : goal.returns
returns c =
    rw
    (← c.get-rate.ensures.0, ← c.get-entering.ensures.0, ← c.get-volume.ensures.0, ← c.get-2.ensures.0, ← c.get-3.ensures.0, ← c.get.ensures.0)
    (c.new.ensures ∙ c.max.ensures ∙ depth_parts _ _ _ _ _ _ c.round_up-separation.ensures c.round_up-loading.ensures c.round_up-storage.ensures c.round_up-thickened.ensures)
