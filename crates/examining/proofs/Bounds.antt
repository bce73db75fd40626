-- The limits of a sheet's figures, from those of its stages. Assumes nothing.
use Prim.Native.Nat.{ℕ, ◌*◌, ◌≤◌}
use native.Mathlib.Omega.{arith}
use Rattle.rules.specs.Limits.{most_reactor}
use Rattle.rules.specs.Ranges.{PlantRanges, ConcentrationRanges, OnGrid, SheetBounds, VolumeBounds}
use Rattle.rules.specs.ReactorSteps.{reactor_of, reactor_solids, reactor_volume}
use Rattle.rules.specs.SettlingSteps.{settling_of}
use Rattle.rules.specs.Examining.{total_of, sheet_from, sheet_of}
use Rattle.rules.specs.declared.Plant.{Plant}
use Rattle.rules.specs.declared.Process.{Process}
use Rattle.rules.specs.declared.Steps.{Steps}
use Rattle.rules.specs.declared.Concentrations.{Concentrations}
use Rattle.rules.specs.declared.Candidate.{Candidate}
use Rattle.rules.proofs.Quotients.{up_le}
use Rattle.reactor.proofs.Bounds.{reactor_bounds_lem}
use Rattle.settling.proofs.Bounds.{settling_bounds_lem}
use Rattle.aeration.proofs.Bounds.{aeration_bounds}

-- E' is no smaller than E
solids_least : (process : Process) (e : ℕ) → e ≤ reactor_solids process e
unfolding reactor_solids
solids_least Process.PreAnoxic e = omega arith
solids_least Process.Simultaneous e = omega arith
solids_least Process.Intermittent e = omega arith
solids_least (Process.StepFeed Steps.Two) e = omega arith
solids_least (Process.StepFeed Steps.Three) e = omega arith

-- the reactor volume of the mass at E', which is at least 790
reactor_most : (p : Plant) (x : Concentrations) (y : Candidate) → PlantRanges p → ConcentrationRanges x → OnGrid y → (sheet_of p x y).reactor ≤ most_reactor
unfolding sheet_of sheet_from reactor_volume
reactor_most p x y hp hx hy =
    let reactor = reactor_of p x y.fraction in
    let tank = settling_of p y.return_ratio y.thickening in
    let r = reactor_bounds_lem p x y.fraction hp hx hy.fraction in
    let s = settling_bounds_lem p y.return_ratio y.thickening hp hy.ratio hy.time in
    let e : ℕ = reactor_solids p.process tank.solids in
    let least : 790 ≤ e = omega (arith, solids_least p.process tank.solids, s.solids) in
    (up_le (1000 * reactor.mass) e most_reactor (omega arith)).1 (omega (arith, r.mass, least))

pub sheet_bounds : (p : Plant) (x : Concentrations) (y : Candidate) → PlantRanges p → ConcentrationRanges x → OnGrid y → SheetBounds (sheet_of p x y)
unfolding sheet_of sheet_from total_of reactor_volume
sheet_bounds p x y hp hx hy =
    let reactor = reactor_of p x y.fraction in
    let tank = settling_of p y.return_ratio y.thickening in
    let r = reactor_bounds_lem p x y.fraction hp hx hy.fraction in
    let s = settling_bounds_lem p y.return_ratio y.thickening hp hy.ratio hy.time in
    let a = aeration_bounds p x reactor hp hx r in
    let volume = reactor_most p x y hp hx hy in
    record {
      sludge = omega (arith, r.sludge);
      mass = omega (arith, r.mass);
      surface = omega (arith, s.surface);
      reactor = omega (arith, volume);
      settling = omega (arith, s.volume);
      total = omega (arith, volume, s.volume);
      oxygen = omega (arith, a.oxygen);
      transfer = omega (arith, a.transfer);
    }

-- the two volumes, with nearer limits
pub volume_bounds : (p : Plant) (x : Concentrations) (y : Candidate) → PlantRanges p → ConcentrationRanges x → OnGrid y → VolumeBounds (sheet_of p x y)
unfolding sheet_of sheet_from reactor_volume
volume_bounds p x y hp hx hy =
    let s = settling_bounds_lem p y.return_ratio y.thickening hp hy.ratio hy.time in
    record { reactor = reactor_most p x y hp hx hy; settling = s.volume.most }
