-- The answers of a works' lines in an array, for the contracts of the inner functions. Assumes nothing.
use Rattle.std.specs.Prelude.{ℕ, ◌+◌, ◌*◌, ◌≤◌, ◌<◌, ◌≡◌, List, length, get_or, Ok}
use Rattle.rules.specs.Limits.{most_lines, most_figure}
use Rattle.rules.specs.Answers.{empty_sheet, answer_sheet}
use Rattle.rules.specs.Ranges.{SheetBounds}
use Rattle.rules.specs.Lines.{line_of, LineChosen}
use Rattle.rules.specs.declared.Plant.{Plant}
use Rattle.rules.specs.declared.Concentrations.{Concentrations}
use Rattle.rules.specs.declared.Split.{Split}
use Rattle.rules.specs.declared.Sheet.{Sheet}
use Rattle.rules.specs.declared.Sums.{Sums}
use Rattle.rules.specs.Results.{Answer}

-- the answer in entry i
abbrev pub answer_at : List Answer → ℕ → Answer
answer_at answers i = get_or answers i (Ok empty_sheet)

-- how many figures a works has: eight sums, and fifteen for each of eight lines
abbrev pub works_count : ℕ
works_count = 128

-- above any eight shares added up
abbrev pub most_shares : ℕ
most_shares = 34_359_738_360

-- the answers of the first n lines, each the one of its line
pub record LinesChosen (p : Plant) (x : Concentrations) (split : Split) (n : ℕ) (answers : List Answer) : Type 0 where
  pub size : length answers ≡ most_lines
  pub each : (i : ℕ) → i < n → LineChosen (line_of p split i) x (answer_at answers i)

-- the sheets of the first n answers are within their limits
abbrev pub SheetsBounded : List Answer → ℕ → Type 0
SheetsBounded answers n = (i : ℕ) → i < n → SheetBounds (answer_sheet (answer_at answers i))

-- sums of n sheets within their limits
pub record SumsBounds (n : ℕ) (sums : Sums) : Type 0 where
  pub sludge : sums.sludge ≤ n * most_figure
  pub mass : sums.mass ≤ n * most_figure
  pub surface : sums.surface ≤ n * most_figure
  pub reactor : sums.reactor ≤ n * most_figure
  pub settling : sums.settling ≤ n * most_figure
  pub total : sums.total ≤ n * most_figure
  pub oxygen : sums.oxygen ≤ n * most_figure
  pub transfer : sums.transfer ≤ n * most_figure

-- the sums with one sheet more
unfoldable pub sums_with : Sums → Sheet → Sums
sums_with sums sheet =
    record {
      sludge = sums.sludge + sheet.sludge;
      mass = sums.mass + sheet.mass;
      surface = sums.surface + sheet.surface;
      reactor = sums.reactor + sheet.reactor;
      settling = sums.settling + sheet.settling;
      total = sums.total + sheet.total;
      oxygen = sums.oxygen + sheet.oxygen;
      transfer = sums.transfer + sheet.transfer;
    }
