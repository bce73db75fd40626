-- Wrong choosers, each refuted on concrete data: its answer does not keep demand 3. Assumes nothing.
use mathlib.Core.Path.{◌≡◌, refl}
use lib.Dec.{le→leb}
use Rattle.std.specs.Prelude.{Ok, Err}
use Rattle.rules.specs.Examining.{examine}
use Rattle.rules.specs.Answers.{empty_sheet}
use Rattle.rules.specs.Choosing.{candidate_total, Chosen}
use Rattle.rules.specs.Cases.{variant, case_a, readings_a, concentrations_a, candidate, f32}
use Rattle.rules.specs.WithoutWay.{with_way}
use Rattle.rules.specs.declared.Plant.{Plant}
use Rattle.rules.specs.declared.Way.{Way}
use Rattle.rules.specs.declared.Process.{Process}
use Rattle.rules.specs.declared.TankFlow.{TankFlow}
use Rattle.rules.specs.declared.Removal.{Removal}
use Rattle.rules.specs.declared.Reading.{Reading}
use Rattle.rules.specs.declared.Readings.{Readings}
use Rattle.rules.specs.declared.Refusal.{Refusal}
use Rattle.rules.proofs.Computing.{steps}

-- Case A's readings with no solids and no phosphorus
unfoldable pub clean_readings : Readings
clean_readings =
    record {
      bod = Reading.Measured (f32 200 1);
      cod = Reading.Measured (f32 400 1);
      solids = Reading.Measured (f32 0 1);
      nitrogen = Reading.Measured (f32 46 1);
      phosphorus = Reading.Measured (f32 0 1);
    }

-- "No design" before looking, or from a sweep of the first fraction alone, which is not covered: 300, 75, 20 is
-- permitted.
pub five_before_looking : Chosen case_a readings_a (Err Refusal.NoDesign) → ⊥
unfolding steps
five_before_looking h = h.1 (candidate 300 75 20) tt tt

-- "No design" because the nitrate is not covered at the largest fraction, as if the cover were upward closed: in the way by COD this
-- water is covered at 499 alone.
abbrev thin_readings : Readings
thin_readings =
    record {
      bod = Reading.Measured (f32 20 1);
      cod = Reading.Measured (f32 20 1);
      solids = Reading.Measured (f32 51_735 1_000);
      nitrogen = Reading.Measured (f32 12_856 1_000);
      phosphorus = Reading.Measured (f32 8 1);
    }

abbrev thin_plant : Plant
thin_plant = with_way Way.Cod (variant 5_000 10_000 1_000 5_000 Process.Simultaneous TankFlow.Horizontal Removal.Scraper)

pub five_from_the_largest :
    (examine thin_plant thin_readings (candidate 500 75 20) ≡ Err Refusal.Nitrate)
    × (Chosen thin_plant thin_readings (Err Refusal.NoDesign) → ⊥)
unfolding steps
five_from_the_largest = (refl, λ h. h.1 (candidate 499 75 20) tt tt)

-- Case A's own listing, examined at 300, 75, 20: 300, 71, 22 is permitted and smaller.
pub case_a_listing : Chosen case_a readings_a (examine case_a readings_a (candidate 300 75 20)) → ⊥
unfolding steps
case_a_listing h = le→leb 5_165 5_164 (h.rivals (candidate 300 71 22) tt tt).total

-- 300, 73, 21, the choice by a root with three digits: 300, 71, 22 is smaller.
pub coarse_choice : Chosen case_a readings_a (examine case_a readings_a (candidate 300 73 21)) → ⊥
unfolding steps
coarse_choice h = le→leb 5_166 5_164 (h.rivals (candidate 300 71 22) tt tt).total

-- Stopping at the least covered fraction, 300, and taking its best tank: 301, 49, 20 is permitted and smaller.
pub least_covered_fraction : Chosen case_a clean_readings (examine case_a clean_readings (candidate 300 49 20)) → ⊥
unfolding steps clean_readings
least_covered_fraction h = le→leb 3_001 2_999 (h.rivals (candidate 301 49 20) tt tt).total

-- A sheet of zeros has no smaller rival, and is not the sheet of a permitted candidate.
pub sheet_of_zeros : Chosen case_a readings_a (Ok empty_sheet) → ⊥
unfolding steps
sheet_of_zeros h = h.allowed

-- a flow so small that many designs have the same total
unfoldable pub small_plant : Plant
small_plant = variant 50 10_000 1_000 5_000 Process.PreAnoxic TankFlow.Horizontal Removal.Scraper

unfoldable pub vertical_plant : Plant
vertical_plant = variant 5_000 10_000 1_000 10_000 Process.PreAnoxic TankFlow.Vertical Removal.Suction

-- Equal totals to the larger fraction: 300, 30, 23 has the same total as 301, 30, 23.
pub ties_to_larger_fraction : Chosen small_plant readings_a (examine small_plant readings_a (candidate 301 30 23)) → ⊥
unfolding steps small_plant
ties_to_larger_fraction h = le→leb 301 300 ((h.rivals (candidate 300 30 23) tt tt).fraction refl)

-- the two totals below, computed apart
same_total : candidate_total small_plant concentrations_a (candidate 300 32 20) ≡ candidate_total small_plant concentrations_a (candidate 300 30 23)
unfolding steps small_plant
same_total = refl

-- Equal totals to the shorter thickening time before the smaller return ratio: 300, 30, 23 against 300, 32, 20.
pub ties_by_time_first : Chosen small_plant readings_a (examine small_plant readings_a (candidate 300 32 20)) → ⊥
unfolding steps small_plant
ties_by_time_first h = le→leb 32 30 ((h.rivals (candidate 300 30 23) tt tt).ratio same_total refl)

-- a flow so small that the sludge mass is the same for many thickening times
unfoldable pub tiny_plant : Plant
tiny_plant = variant 1 10_000 1_000 5_000 Process.PreAnoxic TankFlow.Horizontal Removal.Scraper

-- Equal totals, fractions and return ratios to the longer thickening time: 300, 30, 20 against 300, 30, 21.
pub ties_to_longer_time : Chosen tiny_plant readings_a (examine tiny_plant readings_a (candidate 300 30 21)) → ⊥
unfolding steps tiny_plant
ties_to_longer_time h = le→leb 21 20 ((h.rivals (candidate 300 30 20) tt tt).time refl refl refl)

-- Return ratios above 75 left out in vertical flow: 300, 75, 25 is the best of the others, 300, 94, 25 is smaller.
pub vertical_held_to_75 : Chosen vertical_plant readings_a (examine vertical_plant readings_a (candidate 300 75 25)) → ⊥
unfolding steps vertical_plant
vertical_held_to_75 h = le→leb 5_764 5_640 (h.rivals (candidate 300 94 25) tt tt).total
