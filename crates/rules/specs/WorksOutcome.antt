-- What the calls for a works and for one of its lines promise of the number, the sums and the sheets that they give: everything, or
-- one numbered refusal with zeros; and the two columns of every line. Assumes nothing.
use Rattle.std.specs.Prelude.{ℕ, ◌-◌, ◌≤◌, ◌<◌, ◌⊎◌, ◌≡◌, T, get_or, Ok, Err, Result}
use Rattle.rules.specs.Rules.{all_kept, FirstBroken}
use Rattle.rules.specs.Accepting.{values_of}
use Rattle.rules.specs.Answers.{empty_sheet, sheet_figures}
use Rattle.rules.specs.Choosing.{grid, Least}
use Rattle.rules.specs.Outcomes.{Refuses}
use Rattle.rules.specs.TwoColumns.{Removes}
use Rattle.rules.specs.Lines.{line_of, line_positive, LineChosen, line_rules}
use Rattle.rules.specs.Works.{works_rules, sums_of, works_figures}
use Rattle.rules.specs.declared.Plant.{Plant}
use Rattle.rules.specs.declared.Readings.{Readings}
use Rattle.rules.specs.declared.Concentrations.{Concentrations}
use Rattle.rules.specs.declared.Split.{Split}
use Rattle.rules.specs.declared.Sheet.{Sheet}
use Rattle.rules.specs.declared.Works.{Works}
use Rattle.rules.specs.declared.Refusal.{Refusal}
use Rattle.rules.specs.Results.{Answer}

-- demand 3 for a line that has a sheet: none of its parts is 0, and the sheet is its least design
pub record LineDesigned (line : Plant) (x : Concentrations) (sheet : Sheet) : Type 0 where
  pub positive : T (line_positive line)
  pub least : Least line x (grid line) sheet

-- the sheet of line i in a works' answer
abbrev pub sheet_at : Works → ℕ → Sheet
sheet_at w i = get_or w.sheets i empty_sheet

-- a works with a design: every line's sheet is its own least design, zeros past the last line, and the sums are those of the sheets
pub record WorksDesigned (p : Plant) (r : Readings) (split : Split) (number : ℕ) (w : Works) : Type 0 where
  pub numbered : number ≡ 0
  pub kept : T (all_kept (works_rules p r split))
  pub lines : (i : ℕ) → i < split.count → LineDesigned (line_of p split i) (values_of p r) (sheet_at w i)
  pub past : (i : ℕ) → split.count ≤ i → sheet_at w i ≡ empty_sheet
  pub sums : w.sums ≡ sums_of (λ i. Ok (sheet_at w i)) split.count

-- n is the refusal of a works' first refused line: every line before it has a sheet
pub record FirstLine (p : Plant) (x : Concentrations) (split : Split) (n : Refusal) : Type 0 where
  pub line : ℕ
  pub below : line < split.count
  pub refused : LineChosen (line_of p split line) x (Err n)
  pub earlier : (i : ℕ) → i < line → (s : Sheet) × LineDesigned (line_of p split i) x s

-- a works' refusal: the first of 18 and the data's rules that is broken, or that of the first refused line
abbrev pub WorksDue : Plant → Readings → Split → Refusal → Type 0
WorksDue p r split n = FirstBroken (works_rules p r split) n ⊎ (T (all_kept (works_rules p r split)) × FirstLine p (values_of p r) split n)

abbrev pub WorksOutcome : Plant → Readings → Split → ℕ → Works → Type 0
WorksOutcome p r split number w = WorksDesigned p r split number w ⊎ Refuses (WorksDue p r split) number (works_figures w)

-- the answer of one line, asked for by its number from 1: its least design ..
pub record LineDesigns (p : Plant) (r : Readings) (split : Split) (line number : ℕ) (sheet : Sheet) : Type 0 where
  pub numbered : number ≡ 0
  pub kept : T (all_kept (line_rules p r split line))
  pub designed : LineDesigned (line_of p split (line - 1)) (values_of p r) sheet

-- .. or the first of 18 and the data's rules that is broken, or the line's own 1 or 5
abbrev pub LineDue : Plant → Readings → Split → ℕ → Refusal → Type 0
LineDue p r split line n =
    FirstBroken (line_rules p r split line) n
    ⊎ (T (all_kept (line_rules p r split line)) × LineChosen (line_of p split (line - 1)) (values_of p r) (Err n))

abbrev pub LineOutcome : Plant → Readings → Split → ℕ → ℕ → Sheet → Type 0
LineOutcome p r split line number sheet = LineDesigns p r split line number sheet ⊎ Refuses (LineDue p r split line) number (sheet_figures sheet)

-- the two columns: of every line of a works that has its sheets, and of a line's own
abbrev pub WorksColumns : Plant → Readings → Split → Result Works Refusal → Type 0
WorksColumns p r split (Ok w) = (i : ℕ) → i < split.count → Removes (line_of p split i) (values_of p r) (sheet_at w i).fraction
WorksColumns p r split (Err n) = Unit {0}

abbrev pub LineColumns : Plant → Readings → Split → ℕ → Answer → Type 0
LineColumns p r split line (Ok s) = Removes (line_of p split (line - 1)) (values_of p r) s.fraction
LineColumns p r split line (Err n) = Unit {0}
