-- Limits of the figures of a reactor and of a settling tank: those that their types have, by the code's constants, for the laws over the
-- definitions. Assumes nothing.
use Rattle.std.specs.Prelude.{ℕ, ◌≤◌}
use Rattle.rules.specs.Limits.{least_solids, least_depth, most_settling_volume}
use Rattle.rules.specs.Ranges.{Between, GridFraction}
use Rattle.rules.specs.declared.bounded.TheConstants.{MOST_AGE, MOST_NITROGEN, MOST_REMOVES, MOST_REMOVED_BY_DOSE, MOST_SLUDGE, MOST_MASS, LEAST_BOTTOM, MOST_BOTTOM, LEAST_RETURNED, MOST_SOLIDS, MOST_SLUDGE_VOLUME, MOST_SURFACE, MOST_DEPTH, MOST_OXYGEN}
use Rattle.rules.specs.declared.Reactor.{Reactor}
use Rattle.rules.specs.declared.Settling.{Settling}

-- t, thousandths of a day
abbrev pub most_age : ℕ
most_age = MOST_AGE

-- N, and with it W and D, mg/m3
abbrev pub most_nitrogen : ℕ
most_nitrogen = MOST_NITROGEN

-- K × C or what stands for it, and the nitrate that the dose removes, mg/m3
abbrev pub most_removes : ℕ
most_removes = MOST_REMOVES

abbrev pub most_removed_by_dose : ℕ
most_removed_by_dose = MOST_REMOVED_BY_DOSE

-- S, g/d, and M, kg
abbrev pub most_sludge : ℕ
most_sludge = MOST_SLUDGE

abbrev pub most_mass : ℕ
most_mass = MOST_MASS

-- B, and with it R, g/m3
abbrev pub least_bottom : ℕ
least_bottom = LEAST_BOTTOM

abbrev pub most_bottom : ℕ
most_bottom = MOST_BOTTOM

abbrev pub least_returned : ℕ
least_returned = LEAST_RETURNED

-- E, g/m3, and V, l/m3
abbrev pub most_solids : ℕ
most_solids = MOST_SOLIDS

abbrev pub most_sludge_volume : ℕ
most_sludge_volume = MOST_SLUDGE_VOLUME

-- A, m2, and H, mm
abbrev pub most_surface : ℕ
most_surface = MOST_SURFACE

abbrev pub most_depth : ℕ
most_depth = MOST_DEPTH

-- hourly oxygen, g/h
abbrev pub most_oxygen : ℕ
most_oxygen = MOST_OXYGEN

-- limits of a reactor's figures for accepted data and a fraction of the grid: round numbers that the arithmetic needs
pub record ReactorBounds (r : Reactor) : Type 0 where
  pub fraction : GridFraction r.fraction
  pub age : Between 1 most_age r.age
  pub nitrified : r.nitrified ≤ most_nitrogen
  pub denitrified : r.denitrified ≤ most_nitrogen
  pub removes : r.removes ≤ most_removes
  pub by_dose : r.removed_by_dose ≤ most_removed_by_dose
  pub sludge : r.sludge ≤ most_sludge
  pub mass : r.mass ≤ most_mass

-- limits of a settling tank's figures for accepted data, a return ratio and a thickening time of the grid
pub record SettlingBounds (s : Settling) : Type 0 where
  pub solids : Between least_solids most_solids s.solids
  pub sludge_volume : Between 1 most_sludge_volume s.sludge_volume
  pub surface : Between 1 most_surface s.surface
  pub depth : Between least_depth most_depth s.depth
  pub volume : Between 1 most_settling_volume s.volume
