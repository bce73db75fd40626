-- `Lines::plant` meets its contract: the running sums are at most 1,000 and grow, so that the parts are the definition's. Assumes nothing.
use mathlib.Core.Path.{◌≡◌}
use Prim.Native.Nat.{ℕ, ◌+◌, ◌≤◌, ◌<◌}
use native.Mathlib.Omega.{arith}
use lib.Dec.{T}
use Rattle.rules.specs.Lines.{shares_to, split_valid, line_part, line_of}
use Rattle.rules.specs.declared.Split.{Split}
use Rattle.rules.proofs.LineLaws.{valid_split, shares_grow, shares_most}
use Rattle.works.proofs.Lines.plant.Goals as goal

-- the shares before a line and with it
running : (split : Split) (i before to : ℕ) → T (split_valid split) → i < split.count → before ≡ shares_to split i → to ≡ shares_to split (i + 1) → (before ≤ to) × (to ≤ 1000)
running split i before to valid below e f =
    let most = shares_most split valid (i + 1) (omega arith) in
    let grow = shares_grow split i (i + 1) (omega arith) in
    (omega arith, omega arith)

pub shares_to-before-requires : goal.shares_to-before-requires
shares_to-before-requires c = omega (arith, (valid_split c.args.self.now.split.now c.args.self.now.valid).lines)

pub overflow_add-i : goal.overflow_add-i
overflow_add-i c = omega (arith, (valid_split c.args.self.now.split.now c.args.self.now.valid).lines)

pub shares_to-to-requires : goal.shares_to-to-requires
shares_to-to-requires c = omega (arith, (valid_split c.args.self.now.split.now c.args.self.now.valid).lines)

pub part-requires : goal.part-requires
part-requires c =
    let r = running c.args.self.now.split.now c.args.i _ _ c.args.self.now.valid c.requires c.shares_to-before.ensures.0 c.shares_to-to.ensures.0 in
    (omega (arith, c.args.self.now.accepted.now.plant_ranges.flow.most), r.0, r.1)

pub part-requires-2 : goal.part-requires-2
part-requires-2 c =
    let r = running c.args.self.now.split.now c.args.i _ _ c.args.self.now.valid c.requires c.shares_to-before.ensures.0 c.shares_to-to.ensures.0 in
    (omega (arith, c.args.self.now.accepted.now.plant_ranges.wet.most), r.0, r.1)

pub part-requires-3 : goal.part-requires-3
part-requires-3 c =
    let r = running c.args.self.now.split.now c.args.i _ _ c.args.self.now.valid c.requires c.shares_to-before.ensures.0 c.shares_to-to.ensures.0 in
    (omega (arith, c.args.self.now.accepted.now.plant_ranges.surface.most), r.0, r.1)

pub returns : goal.returns
unfolding line_of line_part
returns c = rw (← c.shares_to-before.ensures.0, ← c.shares_to-to.ensures.0, c.part-3.ensures, c.part-2.ensures, c.part.ensures)
