-- `Tanks::fractions` meets its contract: a fraction is passed over that is not covered, or no lighter than a covered one before it, and
-- the others are gone through. Assumes nothing.
use native.Mathlib.Omega.{arith}
use mathlib.Core.Path.{◌≡◌, sym}
use Rattle.std.specs.Prelude.{Some, None}
use Rattle.choosing.proofs.Stepping.{fraction_joined, left_out, later, run_joined}
use Rattle.choosing.proofs.tanks.Tanks.fractions.Goals as goal

pub fraction-preserved-in_default : goal.fraction-preserved-in_default
fraction-preserved-in_default c =
    let d = c.args.self.now.basis.now.data in
    record {
      least =
          left_out d c.args.first c.fraction.f c.requires.0 c.fraction.lightest None c.fraction.best c.fraction.invariant.lightest
          (sym (rw (c.new.ensures, c.from.ensures) at c.in_default.ensures)) tt c.fraction.invariant.least;
      lightest = later d c.args.first c.fraction.f c.fraction.lightest c.fraction.invariant.lightest;
    }

pub fraction-preserved-in-fraction : goal.fraction-preserved-in-fraction
fraction-preserved-in-fraction c =
    let d = c.args.self.now.basis.now.data in
    let light = rw c.in-Some-lightest.is at c.fraction.invariant.lightest in
    record {
      least =
          left_out d c.args.first c.fraction.f c.requires.0 (Some c.in-Some-lightest.least) (Some c.in-Some.mass) c.fraction.best light
          (sym (rw (c.new.ensures, c.from.ensures) at c.in-Some.ensures)) (omega (arith, c.if-get.true, c.get.ensures.0, c.get-in-fraction.ensures.0)) c.fraction.invariant.least;
      lightest = later d c.args.first c.fraction.f (Some c.in-Some-lightest.least) light;
    }

pub fraction-preserved : goal.fraction-preserved
fraction-preserved c =
    let d = c.args.self.now.basis.now.data in
    let done : c.tank.i ≡ c.per_fraction-count.result = omega arith in
    record {
      least =
          fraction_joined d c.args.first c.fraction.f c.fraction.best c.tank.of_fraction c.lesser-best.result c.fraction.auto.f c.fraction.invariant.least
          (rw (done, c.per_fraction-count.ensures.0) at c.tank.invariant) c.lesser-best.ensures;
      lightest = (c.fraction.f, c.fraction.auto.f, omega arith, sym (rw (c.new.ensures, c.from.ensures) at c.in-Some.ensures));
    }

pub tank-preserved : goal.tank-preserved
tank-preserved c =
    run_joined c.args.self.now.basis.now.data c.fraction.f 0 c.tank.i c.tank.of_fraction _ _ (omega arith) c.tank.invariant c.key.ensures c.first_of-of_fraction.ensures
