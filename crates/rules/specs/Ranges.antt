-- The ranges of accepted data and of the grid as facts, for the contracts of the inner functions. Those of the plant data
-- and of the grid are the tests of 1, 17, 14 and 6, no more and no less (proofs/RangeFacts.antt); accepted concentrations are
-- in theirs (proofs/AcceptedData.antt). Assumes nothing.
use Rattle.std.specs.Prelude.{ℕ, ◌≤◌, T}
use Rattle.rules.specs.Limits.{least_temperature, most_temperature, least_index, most_index, least_nitrate_target, most_nitrate_target, least_fraction, most_fraction, least_ratio, most_ratio, least_time, most_time, most_dose, most_reactor, most_settling_volume, most_figure}
use Rattle.rules.specs.Consent.{consent_valid}
use Rattle.rules.specs.declared.Plant.{Plant}
use Rattle.rules.specs.declared.Concentrations.{Concentrations}
use Rattle.rules.specs.declared.Candidate.{Candidate}
use Rattle.rules.specs.declared.Sheet.{Sheet}

-- n lies in the range low..high, both ends included
pub record Between (low high n : ℕ) : Type 0 where
  pub least : low ≤ n
  pub most : n ≤ high

-- a temperature of the plant data; a sludge volume index; a fraction, a return ratio of either flow and a thickening time of the
-- grid
abbrev pub Temperature : ℕ → Type 0
Temperature n = Between least_temperature most_temperature n

abbrev pub Index : ℕ → Type 0
Index n = Between least_index most_index n

abbrev pub GridFraction : ℕ → Type 0
GridFraction n = Between least_fraction most_fraction n

abbrev pub GridRatio : ℕ → Type 0
GridRatio n = Between least_ratio most_ratio n

abbrev pub GridTime : ℕ → Type 0
GridTime n = Between least_time most_time n

-- the plant and site figures are in their ranges, the sludge does not bulk, and the terms of the consent are valid
pub record PlantRanges (p : Plant) : Type 0 where
  pub load : Between 1 100_000 p.load
  pub flow : Between 1 200_000 p.flow
  pub wet : Between 1 50_000 p.wet_weather_flow
  pub design : Temperature p.design_temperature
  pub aeration : Temperature p.aeration_temperature
  pub index : Index p.sludge_volume_index
  pub nitrate : Between least_nitrate_target most_nitrate_target p.nitrate_target
  pub phosphorus : Between 0 100_000 p.phosphorus_target
  pub carbon_peak : Between 100 300 p.carbon_peak
  pub nitrogen_peak : Between 100 300 p.nitrogen_peak
  pub saturation : Between 6_000 15_000 p.oxygen_saturation
  pub surface : Between 1 100_000 p.site_surface
  pub depth : Between 3_000 10_000 p.site_depth
  pub dose : Between 0 most_dose p.dose
  pub consent : T (consent_valid p.consent)

-- the concentrations are accepted results
pub record ConcentrationRanges (x : Concentrations) : Type 0 where
  pub bod : Between 20_000 2_000_000 x.bod
  pub cod : Between 20_000 4_400_000 x.cod
  pub solids : Between 0 2_000_000 x.solids
  pub nitrogen : Between 0 500_000 x.nitrogen
  pub phosphorus : Between 0 100_000 x.phosphorus

-- a candidate of the grid of either flow
pub record OnGrid (y : Candidate) : Type 0 where
  pub fraction : GridFraction y.fraction
  pub ratio : GridRatio y.return_ratio
  pub time : GridTime y.thickening

-- limits of the figures of a sheet that a works adds up
pub record SheetBounds (s : Sheet) : Type 0 where
  pub sludge : s.sludge ≤ most_figure
  pub mass : s.mass ≤ most_figure
  pub surface : s.surface ≤ most_figure
  pub reactor : s.reactor ≤ most_figure
  pub settling : s.settling ≤ most_figure
  pub total : s.total ≤ most_figure
  pub oxygen : s.oxygen ≤ most_figure
  pub transfer : s.transfer ≤ most_figure

-- limits of the two volumes of a sheet
pub record VolumeBounds (s : Sheet) : Type 0 where
  pub reactor : s.reactor ≤ most_reactor
  pub settling : s.settling ≤ most_settling_volume
