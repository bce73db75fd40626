-- The bottom sludge is that of the thickening time, and small enough for its product with the index. Assumes nothing.
use Rattle.std.proofs.Common.{refl, subst, sym, ◌≡◌, ◌≤◌, ◌*◌, ℕ}
use Rattle.rules.specs.Ranges.{Between}
use Rattle.rules.specs.SettlingSteps.{thickening_root, bottom_sludge}
use Rattle.settling.proofs.Limits.{bottom_index}
use Rattle.settling.proofs.thickened.Thickened.new.Goals as goal

pub invariant_of-result : goal.invariant_of-result
unfolding bottom_sludge
invariant_of-result c =
    let index : ℕ = c.args.accepted.now.plant.sludge_volume_index in
    let value : c.new-bottom.result ≡ bottom_sludge (thickening_root c.args.time) index =
    rw (c.new-bottom.ensures, c.get.ensures.0, c.thickening_root.ensures, c.from-index.ensures) refl in
    let range : Between 12_599 13_572 (thickening_root c.args.time) = rw (c.get.ensures.0, c.thickening_root.ensures) at c.get.ensures.1 in
    record {
      value = value;
      product = subst (λ (n : ℕ). n * index ≤ 1_357_200) (sym value) (bottom_index index range);
    }
