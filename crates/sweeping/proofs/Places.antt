-- A stretch of the order by fractions and places of the table of tanks: part of one fraction, or the end of one, whole fractions and the
-- beginning of one. Assumes nothing.
use mathlib.Core.Path.{◌≡◌, refl, sym}
use mathlib.Core.Logic.{◌↔◌, ◌⊎◌, inl, inr}
use mathlib.Core.Bool.{Bool, true, false}
use Prim.Native.Nat.{ℕ, ◌+◌, ◌≤◌, ◌<◌, min}
use native.Mathlib.Omega.{arith}
use lib.Dec.{T, ltb}
use borrow.Author.Tests.{ltb-true, ltb-false}
use Rattle.rules.specs.Limits.{most_fraction}
use Rattle.rules.specs.AgeNitrate.{largest_return_ratio, on_grid}
use Rattle.rules.specs.Census.{grid_size}
use Rattle.rules.specs.Sweep.{per_fraction, order_of, Stretch}
use Rattle.std.specs.Prelude.{None}
use Rattle.rules.specs.declared.accepted.Accepted.{Accepted}
use Rattle.rules.specs.declared.Plant.{Plant}
use Rattle.rules.specs.declared.TankFlow.{TankFlow}
use Rattle.rules.specs.declared.Candidate.{Candidate}
use Rattle.rules.proofs.RangeFacts.{GridRanges, grid_ranges}
use Rattle.choosing.specs.Runs.{tank_index, Run, Fractions}
use Rattle.sweeping.specs.Spots.{spot_of, NoneCovered, LeastOfStretch}
use Rattle.choosing.proofs.Stepping.{tanks_below, fraction_run, uncovered}

-- the grid of either flow has at most as many candidates as that in vertical flow
pub grid_most : (flow : TankFlow) → grid_size flow ≤ 128_226
unfolding grid_size
grid_most TankFlow.Horizontal = omega arith
grid_most TankFlow.Vertical = omega arith

-- two spots in their order, the second at most the end of the grid
pub record SpotsInOrder (flow : TankFlow) (from to : ℕ) : Type 0 where
  pub fractions : (spot_of flow from).fraction ≤ (spot_of flow to).fraction
  pub tanks : (spot_of flow from).fraction ≡ (spot_of flow to).fraction → (spot_of flow from).tank ≤ (spot_of flow to).tank
  pub first_tank : (spot_of flow from).tank < per_fraction flow
  pub past_tank : (spot_of flow to).tank < per_fraction flow
  pub most : (spot_of flow to).fraction ≤ most_fraction + 1
  pub end : 0 < (spot_of flow to).tank → (spot_of flow to).fraction ≤ most_fraction

pub spots_in_order : (flow : TankFlow) (from to : ℕ) → from ≤ to → to ≤ grid_size flow → SpotsInOrder flow from to
unfolding grid_size
spots_in_order TankFlow.Horizontal from to h k =
    record { fractions = omega arith; tanks = λ e. omega arith; first_tank = omega arith; past_tank = omega arith; most = omega arith; end = λ e. omega arith }
spots_in_order TankFlow.Vertical from to h k =
    record { fractions = omega arith; tanks = λ e. omega arith; first_tank = omega arith; past_tank = omega arith; most = omega arith; end = λ e. omega arith }

-- a candidate of the grid comes from a place on exactly if it has a later fraction than the place's spot, or the same and no earlier tank
record SpotOrder (flow : TankFlow) (i : ℕ) (y : Candidate) : Type 0 where
  since : i ≤ order_of flow y → (spot_of flow i).fraction ≤ y.fraction
  since_tank : i ≤ order_of flow y → y.fraction ≡ (spot_of flow i).fraction → (spot_of flow i).tank ≤ tank_index y.return_ratio y.thickening
  later : (spot_of flow i).fraction < y.fraction → i ≤ order_of flow y
  later_tank : y.fraction ≡ (spot_of flow i).fraction → (spot_of flow i).tank ≤ tank_index y.return_ratio y.thickening → i ≤ order_of flow y
  before : order_of flow y < i → y.fraction ≤ (spot_of flow i).fraction
  before_tank : order_of flow y < i → y.fraction ≡ (spot_of flow i).fraction → tank_index y.return_ratio y.thickening < (spot_of flow i).tank
  earlier : y.fraction < (spot_of flow i).fraction → order_of flow y < i
  earlier_tank : y.fraction ≡ (spot_of flow i).fraction → tank_index y.return_ratio y.thickening < (spot_of flow i).tank → order_of flow y < i

spot_order : (flow : TankFlow) (i : ℕ) (y : Candidate) → GridRanges flow y → SpotOrder flow i y
unfolding order_of largest_return_ratio
spot_order TankFlow.Horizontal i y g =
    record {
      since = λ h. omega (arith, g.fraction, g.ratio, g.time);
      since_tank = λ h e. omega (arith, g.fraction, g.ratio, g.time);
      later = λ h. omega (arith, g.fraction, g.ratio, g.time);
      later_tank = λ e h. omega (arith, g.fraction, g.ratio, g.time);
      before = λ h. omega (arith, g.fraction, g.ratio, g.time);
      before_tank = λ h e. omega (arith, g.fraction, g.ratio, g.time);
      earlier = λ h. omega (arith, g.fraction, g.ratio, g.time);
      earlier_tank = λ e h. omega (arith, g.fraction, g.ratio, g.time);
    }
spot_order TankFlow.Vertical i y g =
    record {
      since = λ h. omega (arith, g.fraction, g.ratio, g.time);
      since_tank = λ h e. omega (arith, g.fraction, g.ratio, g.time);
      later = λ h. omega (arith, g.fraction, g.ratio, g.time);
      later_tank = λ e h. omega (arith, g.fraction, g.ratio, g.time);
      before = λ h. omega (arith, g.fraction, g.ratio, g.time);
      before_tank = λ h e. omega (arith, g.fraction, g.ratio, g.time);
      earlier = λ h. omega (arith, g.fraction, g.ratio, g.time);
      earlier_tank = λ e h. omega (arith, g.fraction, g.ratio, g.time);
    }

module _ (p : Plant) (from to : ℕ) (y : Candidate) where
  -- the candidate against the two ends
  ends : T (on_grid p.tank y) → SpotOrder p.tank from y × SpotOrder p.tank to y
  ends t = let g = (grid_ranges p.tank y).0 t in (spot_order p.tank from y g, spot_order p.tank to y g)

  pub one_fraction :
      (spot_of p.tank from).fraction ≡ (spot_of p.tank to).fraction
      → Stretch p from to y
      ↔ Run p (spot_of p.tank from).fraction (spot_of p.tank from).tank (spot_of p.tank to).tank y
  one_fraction e = (
    λ s.
        let o = ends s.on_grid in
        let own : y.fraction ≡ (spot_of p.tank from).fraction = omega (arith, o.0.since s.since, o.1.before s.before, e) in
        record { on_grid = s.on_grid; own = own; since = o.0.since_tank s.since own; before = o.1.before_tank s.before (omega (arith, own, e)) },
    λ v.
        let o = ends v.on_grid in
        record { on_grid = v.on_grid; since = o.0.later_tank v.own v.since; before = o.1.earlier_tank (omega (arith, v.own, e)) v.before },
  )

  -- the end of a fraction, whole fractions, the beginning of one
  abbrev pub Parts : Type 0
  Parts =
      (Run p (spot_of p.tank from).fraction (spot_of p.tank from).tank (per_fraction p.tank) y ⊎ Fractions p ((spot_of p.tank from).fraction + 1) (spot_of p.tank to).fraction y)
      ⊎ Run p (spot_of p.tank to).fraction 0 (spot_of p.tank to).tank y

  pub several_fractions : (spot_of p.tank from).fraction < (spot_of p.tank to).fraction → Stretch p from to y ↔ Parts
  several_fractions h = (λ s. go s (ltb (spot_of p.tank from).fraction y.fraction) refl (ltb y.fraction (spot_of p.tank to).fraction) refl, back)
    where
      go : Stretch p from to y → (q : Bool) → ltb (spot_of p.tank from).fraction y.fraction ≡ q → (w : Bool) → ltb y.fraction (spot_of p.tank to).fraction ≡ w → Parts
      go s true e true k =
          let l = ltb-true (spot_of p.tank from).fraction y.fraction e in
          inl (inr (record { on_grid = s.on_grid; since = omega (arith, l); before = ltb-true y.fraction (spot_of p.tank to).fraction k }))
      go s q e false k =
          let b = (ends s.on_grid).1 in
          let own : y.fraction ≡ (spot_of p.tank to).fraction = omega (arith, b.before s.before, ltb-false y.fraction (spot_of p.tank to).fraction k) in
          inr (record { on_grid = s.on_grid; own = own; since = omega arith; before = b.before_tank s.before own })
      go s false e true k =
          let a = (ends s.on_grid).0 in
          let own : y.fraction ≡ (spot_of p.tank from).fraction = omega (arith, a.since s.since, ltb-false (spot_of p.tank from).fraction y.fraction e) in
          inl (inl (record { on_grid = s.on_grid; own = own; since = a.since_tank s.since own; before = tanks_below p.tank y ((grid_ranges p.tank y).0 s.on_grid) }))

      back : Parts → Stretch p from to y
      back (inl (inl v)) =
          let o = ends v.on_grid in record { on_grid = v.on_grid; since = o.0.later_tank v.own v.since; before = o.1.earlier (omega (arith, v.own, h)) }
      back (inl (inr v)) =
          let o = ends v.on_grid in record { on_grid = v.on_grid; since = o.0.later (omega (arith, v.since)); before = o.1.earlier v.before }
      back (inr v) =
          let o = ends v.on_grid in record { on_grid = v.on_grid; since = o.0.later (omega (arith, v.own, h)); before = o.1.earlier_tank v.own v.before }

-- nothing of a stretch is permitted where no fraction of it is covered
pub stretch_uncovered :
    (d : Accepted) (from to : ℕ)
    → NoneCovered d (spot_of d.plant.tank from).fraction (min (spot_of d.plant.tank to).fraction most_fraction + 1)
    → LeastOfStretch d from to None
stretch_uncovered d from to none y s t =
    let o = ends d.plant from to y s.on_grid in
    let g = (grid_ranges d.plant.tank y).0 s.on_grid in
    let e = none y.fraction (o.0.since s.since) (omega (arith, o.1.before s.before, g.fraction)) in
    uncovered d y.fraction 0 (per_fraction d.plant.tank) (sym e) y ((fraction_run d.plant y.fraction y).0 (record { on_grid = s.on_grid; since = omega arith; before = omega arith })) t
