-- Numbers that stand in several places, each named once: the ends of the grid, of the plant's and the terms' temperatures, of
-- the sludge volume index, of the nitrate targets and of the dose, and round limits of the figures for accepted data on the
-- grid, which the arithmetic of the inner functions needs. Assumes nothing.
use Rattle.std.specs.Prelude.{ℕ}

-- degrees
abbrev pub least_temperature : ℕ
least_temperature = 10

abbrev pub most_temperature : ℕ
most_temperature = 20

-- the lowest temperature of a term of the consent
abbrev pub least_term_temperature : ℕ
least_term_temperature = 4

-- I, l/kg, of a sludge that does not bulk
abbrev pub least_index : ℕ
least_index = 50

abbrev pub most_index : ℕ
most_index = 180

-- N3 and the targets of the terms, mg/m3
abbrev pub least_nitrate_target : ℕ
least_nitrate_target = 1_000

abbrev pub most_nitrate_target : ℕ
most_nitrate_target = 50_000

-- the terms of a consent
abbrev pub most_terms : ℕ
most_terms = 4

-- the lines of a works
abbrev pub most_lines : ℕ
most_lines = 8

-- the candidates that one advance of a sweep asks for
abbrev pub most_advance : ℕ
most_advance = 1_000

-- the bands of a tariff, a cubic metre's price in cents, and the surcharge in thousandths
abbrev pub most_bands : ℕ
most_bands = 6

abbrev pub most_price : ℕ
most_price = 1_000_000

abbrev pub most_surcharge : ℕ
most_surcharge = 500

-- f, thousandths
abbrev pub least_fraction : ℕ
least_fraction = 200

abbrev pub most_fraction : ℕ
most_fraction = 500

-- r, hundredths; the largest of either flow
abbrev pub least_ratio : ℕ
least_ratio = 30

abbrev pub most_ratio : ℕ
most_ratio = 100

-- h, tenths of an hour
abbrev pub least_time : ℕ
least_time = 20

abbrev pub most_time : ℕ
most_time = 25

-- K, g nitrate nitrogen per kg BOD
abbrev pub most_capacity : ℕ
most_capacity = 193

-- the dose of external carbon, mg/m3 as COD
abbrev pub most_dose : ℕ
most_dose = 500_000

-- E and E', g/m3
abbrev pub least_solids : ℕ
least_solids = 790

abbrev pub most_reactor_solids : ℕ
most_reactor_solids = 16_400

-- the reactor volume, m3
abbrev pub most_reactor : ℕ
most_reactor = 40_000_000

-- H, mm; the settling volume, m3
abbrev pub least_depth : ℕ
least_depth = 3_000

abbrev pub most_settling_volume : ℕ
most_settling_volume = 1_400_000

-- every figure of a sheet that a works adds up
abbrev pub most_figure : ℕ
most_figure = 100_000_000_000
