-- Mistakes that change a step's shape, so that no edit of one line makes them, and steps moved by one: each gives another figure than
-- the definition on some plant, by computation. Assumes nothing.
use Prim.Native.Nat.{ℕ, ◌+◌, ◌-◌, ◌*◌, ◌^◌}
use mathlib.Core.Path.{◌≡◌, refl}
use borrow.Author.Tests.{eqb-false}
use Rattle.rules.specs.Rounding.{down, up}
use Rattle.rules.specs.AgeNitrate.{
  safety_factor,
  per_degree,
  growth,
  decay,
  aerobic_age,
  sludge_age,
  corrected_age,
  table_capacity,
  risen_capacity,
  capacity_uptake,
  uptake_capacity,
  capacity,
}
use Rattle.rules.specs.ReactorSteps.{biomass_decay, carbon_sludge, phosphorus_sludge, sludge_mass, reactor_solids}
use Rattle.rules.specs.declared.Process.{Process}
use Rattle.rules.specs.declared.Steps.{Steps}

abbrev Differ : ℕ → ℕ → Type 0
Differ right wrong = right ≡ wrong → ⊥

pub record Refuted : Type 0 where
  -- a rounding turned the other way
  pub aerobic_down : Differ (aerobic_age 180 12) (down (180 * 34 * growth 12) 1_000_000)
  pub age_down : Differ (sludge_age 8_213 300) (down (1000 * 8_213) (1000 - 300))
  pub corrected_up : Differ (corrected_age 11_733 12) (up (11_733 * decay 12) 1_000_000)
  pub uptake_up : Differ (capacity_uptake 9_524) (560 + up (15000 * 9_524) (100000 + 17 * 9_524))
  pub biomass_up : Differ (biomass_decay 9_524) (up (10200 * 9_524) (100000 + 17 * 9_524))
  pub carbon_down :
      Differ (carbon_sludge 5_001 200_001 150_000 9_524)
      (down (5_001 * ((750 - biomass_decay 9_524) * 200_001 + 600 * 150_000)) 1_000_000)
  pub phosphorus_down : Differ (phosphorus_sludge 5_001 68 8_001 1_000 200_000) (down (5_001 * 68 * (8_001 - 1_000 - 2_000)) 10_000)
  pub mass_down : Differ (sludge_mass 11_733 1_000_001) (down (11_733 * 1_000_001) 1_000_000)
  -- two roundings merged into one
  pub growth_merged : Differ (growth 10) (down (1_000_000 * 1103 ^ 5) (1000 ^ 5))
  pub age_merged : Differ (sludge_age (aerobic_age 180 12) 200) (up (1000 * 180 * 34 * growth 12) (1_000_000 * (1000 - 200)))
  pub rise_merged : Differ (risen_capacity (table_capacity 299) 20) (down ((110 * 100 + 20 * (299 - 200)) * (100 + (20 - 12))) (100 * 100))
  pub sludge_merged :
      Differ (carbon_sludge 5_001 200_001 150_000 9_524 + phosphorus_sludge 5_001 68 8_001 1_000 200_000)
      (up
      (5_001 * ((750 - biomass_decay 9_524) * 200_001 + 600 * 150_000) + 100 * (5_001 * 68 * (8_001 - 1_000 - 2_000)))
      1_000_000)
  -- the rise above 12 degrees applied to a process that denitrifies by its oxygen uptake
  pub rise_everywhere : Differ (capacity Process.Simultaneous 500 20 9_524) (risen_capacity (uptake_capacity 500 9_524) 20)
  -- the rise from 14 degrees on; the safety factor of 6,000 at 5,999; three steps with the solids of two
  pub rise_from_14 : Differ (risen_capacity 130 13) (risen_capacity 130 12)
  pub factor_early : Differ (safety_factor 5_999) (safety_factor 6_000)
  pub step_feed_by_uptake : Differ (capacity (Process.StepFeed Steps.Two) 500 12 9_524) (capacity Process.Simultaneous 500 12 9_524)
  pub three_as_two : Differ (reactor_solids (Process.StepFeed Steps.Three) 3_779) (reactor_solids (Process.StepFeed Steps.Two) 3_779)

pub refuted : Refuted
unfolding
    per_degree
    growth
    decay
    aerobic_age
    sludge_age
    corrected_age
    table_capacity
    risen_capacity
    capacity_uptake
    uptake_capacity
    capacity
    biomass_decay
    carbon_sludge
    phosphorus_sludge
    sludge_mass
    safety_factor
    reactor_solids
refuted =
    record {
      aerobic_down = eqb-false _ _ refl;
      age_down = eqb-false _ _ refl;
      corrected_up = eqb-false _ _ refl;
      uptake_up = eqb-false _ _ refl;
      biomass_up = eqb-false _ _ refl;
      carbon_down = eqb-false _ _ refl;
      phosphorus_down = eqb-false _ _ refl;
      mass_down = eqb-false _ _ refl;
      growth_merged = eqb-false _ _ refl;
      age_merged = eqb-false _ _ refl;
      rise_merged = eqb-false _ _ refl;
      sludge_merged = eqb-false _ _ refl;
      rise_everywhere = eqb-false _ _ refl;
      rise_from_14 = eqb-false _ _ refl;
      factor_early = eqb-false _ _ refl;
      step_feed_by_uptake = eqb-false _ _ refl;
      three_as_two = eqb-false _ _ refl;
    }
