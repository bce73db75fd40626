-- `stretch` meets its contract: nothing of a stretch is permitted where no fraction of it is covered. Assumes nothing.
use native.Mathlib.Omega.{arith}
use Rattle.sweeping.proofs.Places.{grid_most, stretch_uncovered}
use Rattle.sweeping.proofs.stretch.Goals as goal

pub at-first-requires : goal.at-first-requires
at-first-requires c = omega (arith, c.requires.0, c.requires.1, grid_most c.args.basis.now.data.plant.tank)

pub at-past-requires : goal.at-past-requires
at-past-requires c = omega (arith, c.requires.1, grid_most c.args.basis.now.data.plant.tank)

pub returns-then-not-any_covered : goal.returns-then-not-any_covered
returns-then-not-any_covered c =
    stretch_uncovered c.args.basis.now.data c.args.from c.args.to
    (rw (c.at-first.ensures, c.min.ensures, c.at-past.ensures) at (c.any_covered.ensures c.if-not-any_covered.true))
