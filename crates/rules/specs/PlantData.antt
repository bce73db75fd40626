-- Document 01, "Plant data and site", and the dose of document 02, item 2: the range of each figure. Assumes nothing.
use Rattle.std.specs.Prelude.{ℕ, Bool, true, ◌&&◌, List, [], ◌∷◌, ◌++◌, leb}
use Rattle.rules.specs.Limits.{least_temperature, most_temperature, least_index, least_nitrate_target, most_nitrate_target, most_dose}
use Rattle.rules.specs.declared.Plant.{Plant}

-- n lies in the range least..most, both ends included
abbrev pub within : ℕ → ℕ → ℕ → Bool
within least most n = leb least n && leb n most

-- a figure and its range
pub record Figure : Type 0 where
  pub least : ℕ
  pub most : ℕ
  pub value : ℕ

abbrev pub figure : ℕ → ℕ → ℕ → Figure
figure least most value = record { least = least; most = most; value = value }

-- every figure of a table is in its range
abbrev pub all_within : List Figure → Bool
all_within [] = true
all_within (n ∷ rest) = within n.least n.most n.value && all_within rest

-- document 01's plant and site figures; the kinds are allowed in all combinations
unfoldable pub figures_without_dose : Plant → List Figure
figures_without_dose p =
    figure 1 100_000 p.load
    ∷ figure 1 200_000 p.flow
    ∷ figure 1 50_000 p.wet_weather_flow
    ∷ figure least_temperature most_temperature p.design_temperature
    ∷ figure least_temperature most_temperature p.aeration_temperature
    ∷ figure least_index 200 p.sludge_volume_index
    ∷ figure least_nitrate_target most_nitrate_target p.nitrate_target
    ∷ figure 0 100_000 p.phosphorus_target
    ∷ figure 100 300 p.carbon_peak
    ∷ figure 100 300 p.nitrogen_peak
    ∷ figure 6_000 15_000 p.oxygen_saturation
    ∷ figure 1 100_000 p.site_surface
    ∷ figure 3_000 10_000 p.site_depth
    ∷ []

-- the plant and site figures: document 01's, then the dose
unfoldable pub plant_figures : Plant → List Figure
plant_figures p = figures_without_dose p ++ (figure 0 most_dose p.dose ∷ [])

-- every plant and site figure is in its range
unfoldable pub plant_in_range : Plant → Bool
plant_in_range p = all_within (plant_figures p)
