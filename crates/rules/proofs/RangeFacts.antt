-- The ranges as facts are the definitions' tests, both ways. Assumes nothing.
use mathlib.Core.Logic.{◌↔◌}
use Prim.Native.Nat.{◌≤◌}
use native.Mathlib.Omega.{arith}
use mathlib.Core.Bool.{Bool, ◌&&◌}
use lib.Dec.{T, leb→le, le→leb}
use lib.Ieee.Fits.{and_i, and_l, and_r}
use Rattle.rules.specs.Consent.{consent_valid}
use Rattle.rules.specs.PlantData.{within, figures_without_dose, plant_figures, plant_in_range}
use Rattle.rules.specs.Limits.{most_index, least_fraction, most_fraction, least_ratio, most_ratio, least_time, most_time}
use Rattle.rules.specs.Accepting.{bulking_rule}
use Rattle.rules.specs.AgeNitrate.{largest_return_ratio, on_grid}
use Rattle.rules.specs.Ranges.{Between, GridFraction, GridTime, PlantRanges, OnGrid}
use Rattle.rules.specs.declared.Plant.{Plant}
use Rattle.rules.specs.declared.TankFlow.{TankFlow}
use Rattle.rules.specs.declared.Candidate.{Candidate}
use Rattle.rules.proofs.Tests.{within_between, AllBetween, all_between, between_all}

-- the facts, from the table's figures in turn
named : (p : Plant) → AllBetween (plant_figures p) → p.sludge_volume_index ≤ most_index → T (consent_valid p.consent) → PlantRanges p
unfolding plant_figures figures_without_dose
named p b index valid =
    record {
      load = b.0;
      flow = b.1.0;
      wet = b.1.1.0;
      design = b.1.1.1.0;
      aeration = b.1.1.1.1.0;
      index = record { least = b.1.1.1.1.1.0.least; most = index };
      nitrate = b.1.1.1.1.1.1.0;
      phosphorus = b.1.1.1.1.1.1.1.0;
      carbon_peak = b.1.1.1.1.1.1.1.1.0;
      nitrogen_peak = b.1.1.1.1.1.1.1.1.1.0;
      saturation = b.1.1.1.1.1.1.1.1.1.1.0;
      surface = b.1.1.1.1.1.1.1.1.1.1.1.0;
      depth = b.1.1.1.1.1.1.1.1.1.1.1.1.0;
      dose = b.1.1.1.1.1.1.1.1.1.1.1.1.1.0;
      consent = valid;
    }

listed : (p : Plant) → PlantRanges p → AllBetween (plant_figures p)
unfolding plant_figures figures_without_dose
listed p b = (
  b.load,
  (
    b.flow,
    (
      b.wet,
      (
        b.design,
        (
          b.aeration,
          (
            record { least = b.index.least; most = omega (arith, b.index) },
            (b.nitrate, (b.phosphorus, (b.carbon_peak, (b.nitrogen_peak, (b.saturation, (b.surface, (b.depth, (b.dose, tt)))))))),
          ),
        ),
      ),
    ),
  ),
)

pub plant_ranges : (p : Plant) → (T (plant_in_range p) × T (bulking_rule p).kept × T (consent_valid p.consent)) ↔ PlantRanges p
unfolding plant_in_range
plant_ranges p = (
  λ t. named p (all_between (plant_figures p) t.0) (leb→le p.sludge_volume_index most_index t.1) t.2,
  λ b. (between_all (plant_figures p) (listed p b), le→leb p.sludge_volume_index most_index b.index.most, b.consent),
)

-- where the figures are in their ranges, whatever the consent, the daily flow is in its own
pub flow_between : (p : Plant) → T (plant_in_range p) → Between 1 200_000 p.flow
unfolding plant_in_range plant_figures figures_without_dose
flow_between p t = (all_between (plant_figures p) t).1.0

-- a candidate is on the grid
pub record GridRanges (tank : TankFlow) (y : Candidate) : Type 0 where
  pub fraction : GridFraction y.fraction
  pub ratio : Between least_ratio (largest_return_ratio tank) y.return_ratio
  pub time : GridTime y.thickening

pub grid_ranges : (tank : TankFlow) (y : Candidate) → T (on_grid tank y) ↔ GridRanges tank y
unfolding on_grid
grid_ranges tank y = (
  λ t.
      record {
        fraction = (within_between least_fraction most_fraction y.fraction).0 (and_l fraction ratio (and_l (fraction && ratio) time t));
        ratio = (within_between least_ratio (largest_return_ratio tank) y.return_ratio).0 (and_r fraction ratio (and_l (fraction && ratio) time t));
        time = (within_between least_time most_time y.thickening).0 (and_r (fraction && ratio) time t);
      },
  λ g.
      and_i (fraction && ratio) time
      (and_i fraction ratio ((within_between least_fraction most_fraction y.fraction).1 g.fraction) ((within_between least_ratio (largest_return_ratio tank) y.return_ratio).1 g.ratio))
      ((within_between least_time most_time y.thickening).1 g.time),
)
  where
    fraction : Bool
    fraction = within least_fraction most_fraction y.fraction

    ratio : Bool
    ratio = within least_ratio (largest_return_ratio tank) y.return_ratio

    time : Bool
    time = within least_time most_time y.thickening

pub ratio_most : (tank : TankFlow) → largest_return_ratio tank ≤ most_ratio
unfolding largest_return_ratio
ratio_most TankFlow.Horizontal = omega arith
ratio_most TankFlow.Vertical = omega arith

-- a candidate of the grid of either flow
pub on_grid_lem : (tank : TankFlow) (y : Candidate) → T (on_grid tank y) → OnGrid y
on_grid_lem tank y t =
    let g = (grid_ranges tank y).0 t in
    let m : largest_return_ratio tank ≤ most_ratio = ratio_most tank in
    record { fraction = g.fraction; ratio = record { least = g.ratio.least; most = omega (arith, g.ratio) }; time = g.time }
