-- `between` meets its contract: part of one fraction, or the end of one, whole fractions and the beginning of one. Assumes nothing.
use mathlib.Core.Logic.{◌⊎◌}
use Prim.Native.Nat.{◌+◌}
use native.Mathlib.Omega.{arith}
use Rattle.rules.specs.Sweep.{per_fraction, Stretch}
use Rattle.choosing.specs.Runs.{Run, Fractions}
use Rattle.sweeping.specs.Spots.{spot_of}
use Rattle.choosing.proofs.Joining.{same_key, joined}
use Rattle.sweeping.proofs.Places.{grid_most, spots_in_order, one_fraction, several_fractions}
use Rattle.sweeping.proofs.between.Goals as goal

pub at-first-requires : goal.at-first-requires
at-first-requires c = omega (arith, c.requires.0, c.requires.1, grid_most c.args.tanks.now.basis.now.data.plant.tank)

pub at-past-requires : goal.at-past-requires
at-past-requires c = omega (arith, c.requires.1, grid_most c.args.tanks.now.basis.now.data.plant.tank)

pub part-requires : goal.part-requires
part-requires c =
    let flow = c.args.tanks.now.basis.now.data.plant.tank in
    let o = spots_in_order flow c.args.from c.args.to c.requires.0 c.requires.1 in
    let e = rw (c.at-first.ensures, c.at-past.ensures) at c.if-first-past.true in
    rw (c.at-first.ensures, c.at-past.ensures)
    (o.tanks e, omega (arith, o.past_tank), λ h. record { least = omega arith; most = omega (arith, e, o.end (omega (arith, h))) })

pub returns-then-first-past : goal.returns-then-first-past
returns-then-first-past c =
    let d = c.args.tanks.now.basis.now.data in
    let e = rw (c.at-first.ensures, c.at-past.ensures) at c.if-first-past.true in
    same_key d.plant d.concentrations (Stretch d.plant c.args.from c.args.to) _ c.part.result
    (λ y. one_fraction d.plant c.args.from c.args.to y e)
    (rw (c.at-first.ensures, c.at-past.ensures) at c.part.ensures)

pub part-head-requires : goal.part-head-requires
part-head-requires c =
    let flow = c.args.tanks.now.basis.now.data.plant.tank in
    let o = spots_in_order flow c.args.from c.args.to c.requires.0 c.requires.1 in
    let e = rw (c.at-first.ensures, c.at-past.ensures) at c.if-first-past.false in
    rw (c.at-first.ensures, c.per_fraction.ensures.0)
    (omega (arith, o.first_tank), omega arith, λ h. record { least = omega arith; most = omega (arith, o.fractions, o.most, e) })

pub fractions-whole-requires : goal.fractions-whole-requires
fractions-whole-requires c =
    let flow = c.args.tanks.now.basis.now.data.plant.tank in
    let o = spots_in_order flow c.args.from c.args.to c.requires.0 c.requires.1 in
    let e = rw (c.at-first.ensures, c.at-past.ensures) at c.if-first-past.false in
    rw (c.at-first.ensures, c.at-past.ensures) (omega arith, omega (arith, o.fractions, e), o.most)

pub part-tail-requires : goal.part-tail-requires
part-tail-requires c =
    let flow = c.args.tanks.now.basis.now.data.plant.tank in
    let o = spots_in_order flow c.args.from c.args.to c.requires.0 c.requires.1 in
    rw c.at-past.ensures (omega arith, omega (arith, o.past_tank), λ h. record { least = omega arith; most = o.end h })

pub returns : goal.returns
returns c =
    let d = c.args.tanks.now.basis.now.data in
    let p = d.plant in
    let o = spots_in_order p.tank c.args.from c.args.to c.requires.0 c.requires.1 in
    let f = (spot_of p.tank c.args.from).fraction in
    let g = (spot_of p.tank c.args.to).fraction in
    let e = rw (c.at-first.ensures, c.at-past.ensures) at c.if-first-past.false in
    let head = rw (c.at-first.ensures, c.per_fraction.ensures.0) at c.part-head.ensures in
    let whole = rw (c.at-first.ensures, c.at-past.ensures) at c.fractions-whole.ensures in
    let tail = rw c.at-past.ensures at c.part-tail.ensures in
    joined p d.concentrations _ _ (Stretch p c.args.from c.args.to) c.lesser.result c.part-tail.result c.lesser-2.result
    (λ y. several_fractions p c.args.from c.args.to y (omega (arith, o.fractions, e)))
    (joined p d.concentrations
    (Run p f (spot_of p.tank c.args.from).tank (per_fraction p.tank))
    (Fractions p (f + 1) g)
    (λ y. Run p f (spot_of p.tank c.args.from).tank (per_fraction p.tank) y ⊎ Fractions p (f + 1) g y)
    c.part-head.result c.fractions-whole.result c.lesser.result
    (λ y. (λ v. v, λ v. v))
    head whole c.lesser.ensures)
    tail c.lesser-2.ensures
