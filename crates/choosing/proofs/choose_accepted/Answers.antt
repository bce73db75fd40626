-- `choose_accepted` meets its contract: the least key over all fractions names the least design, or there is none. Assumes nothing.
use mathlib.Core.Path.{◌≡◌, refl}
use Prim.Native.Nat.{◌+◌}
use Rattle.std.specs.Prelude.{Some, None}
use Rattle.rules.specs.Limits.{least_fraction, most_fraction}
use Rattle.rules.specs.Ranges.{OnGrid}
use Rattle.rules.proofs.RangeFacts.{on_grid_lem}
use Rattle.choosing.specs.Keys.{key_candidate}
use Rattle.choosing.specs.Runs.{LeastOfFractions}
use Rattle.choosing.proofs.Choice.{whole, designed}
use Rattle.choosing.proofs.choose_accepted.Goals as goal
use Rattle.choosing.proofs.choose_accepted.Goals.{In-Some, In_default}

pub returns-in_default : goal.returns-in_default
returns-in_default c =
    let e : c.new-tanks.result.basis.now.data ≡ c.args.accepted.now = rw c.new-tanks.ensures c.new-basis.ensures in
    (refl, whole c.args.accepted.now None (rw e at c.in_default.ensures))

-- the key is the least for the data given, and names a candidate of the grid
least : (c : In-Some) → LeastOfFractions c.args.accepted.now least_fraction (most_fraction + 1) (Some c.in-Some.key)
least c =
    let e : c.new-tanks.result.basis.now.data ≡ c.args.accepted.now = rw c.new-tanks.ensures c.new-basis.ensures in
    rw e at c.in-Some.ensures

inside : (c : In-Some) → OnGrid (key_candidate c.in-Some.key)
inside c = on_grid_lem c.args.accepted.now.plant.tank (key_candidate c.in-Some.key) (whole c.args.accepted.now (Some c.in-Some.key) (least c)).0

pub new-candidate-requires : goal.new-candidate-requires
new-candidate-requires c = rw c.candidate.ensures (inside (goal.at.new-candidate-requires c).In-Some)

pub judge_tank-requires : goal.judge_tank-requires
judge_tank-requires c = rw (c.new-basis.ensures, c.fraction.ensures) at c.reactor-reactor.ensures

pub returns : goal.returns
returns c =
    designed c.args.accepted.now c.in-Some.key c.new-candidate.result c.judge_tank.result (least (goal.at.returns c).In-Some)
    (rw c.candidate.ensures at c.new-candidate.ensures) c.judge_tank.ensures
