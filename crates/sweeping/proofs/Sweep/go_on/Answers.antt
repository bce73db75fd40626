-- `Sweep::go_on` meets its contract: the best of what is handed on and of the stretch, and the number it is reached at. Assumes nothing.
use mathlib.Core.Path.{◌≡◌}
use Prim.Native.Nat.{◌+◌, ◌≤◌, ◌<◌, min}
use borrow.Author.Rules.{rules}
use native.Mathlib.Omega.{arith}
use borrow.Author.Tests.{lt-ltb, le-ltb}
use Rattle.std.specs.Prelude.{true, false}
use Rattle.rules.specs.Census.{grid_size}
use Rattle.choosing.specs.Keys.{key_best}
use Rattle.sweeping.specs.Spots.{LeastOfStretch}
use Rattle.sweeping.specs.Sweeps.{progress_of}
use Rattle.sweeping.proofs.Advancing.{moves, moved_kept}
use Rattle.sweeping.proofs.Sweep.go_on.Goals as goal
use Rattle.sweeping.proofs.Sweep.go_on.Goals.{After-map-best}

-- the number that is reached, the key of the stretch, and the best that is named
reached : (c : After-map-best) → c.min-to.result ≡ min (c.args.self.now.asked + c.args.n) (grid_size c.args.self.now.plant.tank)
reached c = rw c.grid_size-size.ensures.0 at c.min-to.ensures

least : (c : After-map-best) → LeastOfStretch c.args.accepted.now c.args.self.now.asked c.min-to.result c.stretch.result
least c = rw c.new-basis.ensures at c.stretch.ensures

named : (c : After-map-best) → c.map-best.result ≡ key_best c.lesser.result
named c = search rules

pub returns-then-to-size : goal.returns-then-to-size
unfolding progress_of
returns-then-to-size c =
    let m = (goal.at.returns-then-to-size c).After-map-best in
    let left : c.args.self.now.asked + c.args.n < grid_size c.args.self.now.plant.tank = omega (arith, reached m, c.if-to-size.true, c.grid_size-size.ensures.0) in
    moves c.args.accepted.now c.args.self.now c.args.n c.min-to.result c.args.key c.stretch.result c.lesser.result c.requires.0 (reached m) c.requires.3 (least m)
    c.lesser.ensures c.map-best.result true (named m) (lt-ltb _ _ left)

pub best_answer-requires : goal.best_answer-requires
best_answer-requires c =
    let m = (goal.at.best_answer-requires c).After-map-best in
    moved_kept c.args.accepted.now c.args.self.now c.args.n c.min-to.result c.args.key c.stretch.result c.lesser.result c.requires.0 (reached m) c.requires.3
    (least m) c.lesser.ensures c.map-best.result (named m)

pub returns : goal.returns
unfolding progress_of
returns c =
    let m = (goal.at.returns c).After-map-best in
    let done : grid_size c.args.self.now.plant.tank ≤ c.args.self.now.asked + c.args.n = omega (arith, reached m, c.if-to-size.false, c.grid_size-size.ensures.0) in
    rw (c.best_answer.ensures, c.requires.0)
    (moves c.args.accepted.now c.args.self.now c.args.n c.min-to.result c.args.key c.stretch.result c.lesser.result c.requires.0 (reached m) c.requires.3 (least m)
    c.lesser.ensures c.map-best.result false (named m) (le-ltb _ _ done))
