-- Document 02, item 8: works in several lines. The whole works' data are accepted like one plant's, once its split is valid; the works
-- is put together from its lines' answers (Lines.antt) and nothing else. Assumes nothing.
use Rattle.std.specs.Prelude.{ℕ, zero, suc, ◌<◌, ◌≡◌, cond, List, [], ◌∷◌, ◌++◌, ltb, Ok, Err, Result}
use Rattle.words.specs.Bytes.{chunked}
use Rattle.rules.specs.Sums.{sum_from, values_from}
use Rattle.rules.specs.Limits.{most_lines}
use Rattle.rules.specs.Rules.{Rule, rule, verdict, after}
use Rattle.rules.specs.Accepting.{values_of, data_rules, accept_by}
use Rattle.rules.specs.Answers.{empty_sheet, answer_sheet, sheet_figures}
use Rattle.rules.specs.Lines.{split_valid, line_of, LineChosen}
use Rattle.rules.specs.declared.Plant.{Plant}
use Rattle.rules.specs.declared.Readings.{Readings}
use Rattle.rules.specs.declared.Concentrations.{Concentrations}
use Rattle.rules.specs.declared.Split.{Split}
use Rattle.rules.specs.declared.Sheet.{Sheet}
use Rattle.rules.specs.declared.Sums.{Sums}
use Rattle.rules.specs.declared.Works.{Works}
use Rattle.rules.specs.declared.Refusal.{Refusal}
use Rattle.rules.specs.Results.{Verdict}
use Rattle.rules.specs.Results.{Acceptance}
use Rattle.rules.specs.Results.{Answer}

-- the rules of a works: 18, and then those for one plant's data, on the whole works' data
unfoldable pub works_rules : Plant → Readings → Split → List Rule
works_rules p r split = rule Refusal.Lines (split_valid split) ∷ data_rules p r

-- "accepted", with the readings' values on the whole flow, or the first refusal due
unfoldable pub accept_works : Plant → Readings → Split → Acceptance
accept_works p r split = accept_by (verdict (works_rules p r split)) (values_of p r)

-- what an answer says of its line
unfoldable pub answer_verdict : Answer → Verdict
answer_verdict (Ok s) = Ok tt
answer_verdict (Err n) = Err n

-- the refusal of the first refused of n lines, or that none is
unfoldable pub first_refused : (ℕ → Answer) → ℕ → Verdict
first_refused answers zero = Ok tt
first_refused answers (suc n) = after (first_refused answers n) (answer_verdict (answers n))

-- a figure of the sheets of n lines added up
abbrev pub sum_of : (Sheet → ℕ) → (ℕ → Answer) → ℕ → ℕ
sum_of figure answers n = sum_from 0 n (λ i. figure (answer_sheet (answers i)))

unfoldable pub sums_of : (ℕ → Answer) → ℕ → Sums
sums_of answers n =
    record {
      sludge = sum_of (λ s. s.sludge) answers n;
      mass = sum_of (λ s. s.mass) answers n;
      surface = sum_of (λ s. s.surface) answers n;
      reactor = sum_of (λ s. s.reactor) answers n;
      settling = sum_of (λ s. s.settling) answers n;
      total = sum_of (λ s. s.total) answers n;
      oxygen = sum_of (λ s. s.oxygen) answers n;
      transfer = sum_of (λ s. s.transfer) answers n;
    }

-- the sheet of line i of n: zeros past them
unfoldable pub line_sheet : (ℕ → Answer) → ℕ → ℕ → Sheet
line_sheet answers n i = cond (ltb i n) (answer_sheet (answers i)) empty_sheet

-- sums of nothing
unfoldable pub no_sums : Sums
no_sums = record { sludge = 0; mass = 0; surface = 0; reactor = 0; settling = 0; total = 0; oxygen = 0; transfer = 0 }

-- a works of n lines with these answers: the refusal of its first refused line, else the sums and the sheets in order
unfoldable pub works_by : Verdict → (ℕ → Answer) → ℕ → Result Works Refusal
works_by (Ok u) answers n = Ok (record { sums = sums_of answers n; sheets = values_from 0 most_lines (line_sheet answers n) })
works_by (Err k) answers n = Err k

unfoldable pub works_of : (ℕ → Answer) → ℕ → Result Works Refusal
works_of answers n = works_by (first_refused answers n) answers n

-- A works of accepted data: there are answers of its lines, each chosen for its own line, whatever another gets, and the works is
-- put together from them. They leave one works (`works_once` in proofs/WorksLaws.antt).
pub record WorksOfLines (p : Plant) (x : Concentrations) (split : Split) (w : Result Works Refusal) : Type 0 where
  pub answers : ℕ → Answer
  pub each : (i : ℕ) → i < split.count → LineChosen (line_of p split i) x (answers i)
  pub together : w ≡ works_of answers split.count

-- once the works' data have their answer: a refusal of them stands
abbrev pub WorksAccepted : Plant → Split → Result Works Refusal → Acceptance → Type 0
WorksAccepted p split w (Err n) = w ≡ Err n
WorksAccepted p split w (Ok x) = WorksOfLines p x split w

-- the works' answer, whole, for any plant data, readings and split
abbrev pub WorksChosen : Plant → Readings → Split → Result Works Refusal → Type 0
WorksChosen p r split w = WorksAccepted p split w (accept_works p r split)

-- its sums and sheets: zeros where it is refused
unfoldable pub works_sheets : Result Works Refusal → Works
works_sheets (Ok w) = w
works_sheets (Err n) = record { sums = no_sums; sheets = values_from 0 most_lines (λ i. empty_sheet) }

-- its figures in order: the sums, then those of each line's sheet
unfoldable pub sum_figures : Sums → List ℕ
sum_figures s = s.sludge ∷ s.mass ∷ s.surface ∷ s.reactor ∷ s.settling ∷ s.total ∷ s.oxygen ∷ s.transfer ∷ []

unfoldable pub works_figures : Works → List ℕ
works_figures w = sum_figures w.sums ++ chunked sheet_figures w.sheets
