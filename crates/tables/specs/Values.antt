-- Tables 2, 5 and 7 of A 131E by document 01's steps, and how many of their printed values agree. Assumes nothing.
use Rattle.std.specs.Prelude.{ℕ, zero, suc, ◌+◌, ◌-◌, ◌*◌, ◌≤◌, cond, List, [], ◌∷◌, eqb, length, get_or, sum_by}
use Rattle.std.specs.Borrow.{Bor}
use Rattle.rules.specs.Rounding.{down}
use Rattle.rules.specs.Ranges.{Between}
use Rattle.rules.specs.AgeNitrate.{safety_factor, aerobic_age, sludge_age, corrected_age, capacity_uptake}
use Rattle.rules.specs.ReactorSteps.{biomass_decay}
use Rattle.tables.specs.declared.values.Row.{Row}
use Rattle.tables.specs.declared.values.Row.TheVariants.{Age, Production, Consumption}

-- how many columns a row has
abbrev pub columns : Row → ℕ
columns (Age load temperature) = 4
columns (Production ratio) = 6
columns (Consumption temperature) = 6

-- a row whose figures are in the steps' ranges
abbrev pub InRange : Row → Type 0
InRange (Age load temperature) = (load ≤ 100_000) × Between 10 20 temperature
InRange (Production ratio) = ratio ≤ 20
InRange (Consumption temperature) = Between 10 20 temperature

-- n columns of such a row; no table has more than six
pub record Fits (row : Row) (n : ℕ) : Type 0 where
  pub given : InRange row
  pub within : n ≤ columns row
  pub most : n ≤ 6

-- a / d to the nearest whole number, a half up
abbrev pub nearest : ℕ → ℕ → ℕ
nearest a d = down (2 * a + d) (2 * d)

-- the sludge ages of Tables 5 and 7, days
abbrev pub days_at : ℕ → ℕ
days_at column = get_or (4 ∷ 8 ∷ 10 ∷ 15 ∷ 20 ∷ 25 ∷ []) column 0

-- Table 2: sludge age, tenths of a day (5-3)
abbrev pub age_tenths : ℕ → ℕ → ℕ → ℕ
age_tenths load temperature fraction = nearest (sludge_age (aerobic_age (safety_factor load) temperature) fraction) 100

-- Table 5: specific sludge production, hundredths of kg/kg, the mean of 10 and 12 degrees; the ratio X/C in tenths (5-12)
abbrev pub production_hundredths : ℕ → ℕ → ℕ
production_hundredths ratio days =
    nearest (1_500 + 120 * ratio - (biomass_decay (corrected_age (1000 * days) 10) + biomass_decay (corrected_age (1000 * days) 12))) 20

-- Table 7: specific oxygen consumption, hundredths of kg/kg (5-24)
abbrev pub consumption_hundredths : ℕ → ℕ → ℕ
consumption_hundredths temperature days = nearest (capacity_uptake (corrected_age (1000 * days) temperature)) 10

-- the value of a row in a column; Table 2's are for the fractions 200, 300, 400, 500
abbrev pub value_at : Row → ℕ → ℕ
value_at (Age load temperature) column = age_tenths load temperature (200 + 100 * column)
value_at (Production ratio) column = production_hundredths ratio (days_at column)
value_at (Consumption temperature) column = consumption_hundredths temperature (days_at column)

-- 1 where a computed and a printed value agree, else 0
unfoldable pub agrees : ℕ → ℕ → ℕ
agrees computed printed = cond (eqb computed printed) 1 0

-- how many of the first n columns' values agree with the printed ones
unfoldable pub agreeing : (ℕ → ℕ) → List ℕ → ℕ → ℕ
agreeing computed printed zero = 0
agreeing computed printed (suc n) = agreeing computed printed n + agrees (computed n) (get_or printed n 0)

-- how many of a row's printed values agree
abbrev pub agreeing_in : Row → List ℕ → ℕ
agreeing_in row printed = agreeing (value_at row) printed (length printed)

-- a row of a table, with no more printed values than it has columns
abbrev pub FitsPrinted : Row × Bor (List ℕ) → Type 0
FitsPrinted (row, printed) = Fits row (length printed.now)

-- how many of the printed values of a table's rows agree
abbrev pub agreeing_rows : List (Row × Bor (List ℕ)) → ℕ
agreeing_rows rows = sum_by (λ row. agreeing_in row.0 row.1.now) rows
