-- Document 01, "Numbered answers": the paper's number and values for each case of an answer. Assumes nothing.
use Rattle.std.specs.Prelude.{ℕ, List, [], ◌∷◌, ◌++◌, Result, Ok, Err, Option, Some, None}
use Rattle.rules.specs.declared.Sheet.{Sheet}
use Rattle.rules.specs.declared.Refusal.{Refusal}
use Rattle.rules.specs.Results.{Answer}
use Rattle.rules.specs.declared.Progress.{Progress}
use Rattle.rules.specs.declared.PricedSheet.{PricedSheet}

-- the paper's number of each refusal
abbrev pub refusal_number : Refusal → ℕ
refusal_number Refusal.PlantData = 1
refusal_number Refusal.NoNumber = 2
refusal_number Refusal.ReadingRange = 3
refusal_number Refusal.CodRatio = 4
refusal_number Refusal.NoDesign = 5
refusal_number Refusal.OffGrid = 6
refusal_number Refusal.Nitrate = 7
refusal_number Refusal.Solids = 8
refusal_number Refusal.Surface = 9
refusal_number Refusal.Depth = 10
refusal_number Refusal.ShortPage = 11
refusal_number Refusal.DayLog = 12
refusal_number Refusal.DayValue = 13
refusal_number Refusal.Terms = 14
refusal_number Refusal.Nitrification = 15
refusal_number Refusal.TermNitrate = 16
refusal_number Refusal.Bulking = 17
refusal_number Refusal.Lines = 18
refusal_number Refusal.Advance = 19
refusal_number Refusal.Span = 20
refusal_number Refusal.BuiltSize = 21
refusal_number Refusal.Tariff = 22

-- a sheet of zeros
unfoldable pub empty_sheet : Sheet
empty_sheet =
    record {
      fraction = 0;
      return_ratio = 0;
      thickening = 0;
      age = 0;
      sludge = 0;
      mass = 0;
      solids = 0;
      reactor = 0;
      surface = 0;
      depth = 0;
      settling = 0;
      total = 0;
      recirculation = 0;
      oxygen = 0;
      transfer = 0;
    }

-- the number of an answer, whatever its figures are: 0, or the refusal's number
unfoldable pub answer_number : {A : Type 0} → Result A Refusal → ℕ
answer_number (Ok a) = 0
answer_number (Err n) = refusal_number n

-- the sheet that an answer carries: a sheet of zeros where it is refused
unfoldable pub answer_sheet : Answer → Sheet
answer_sheet (Ok s) = s
answer_sheet (Err n) = empty_sheet

-- the count that writing carries: the bytes written, or 0
unfoldable pub written_count : Result ℕ Refusal → ℕ
written_count (Ok n) = n
written_count (Err r) = 0

-- the figures on a sheet, in the listing's order
unfoldable pub sheet_figures : Sheet → List ℕ
sheet_figures s =
    s.fraction
    ∷ s.return_ratio
    ∷ s.thickening
    ∷ s.age
    ∷ s.sludge
    ∷ s.mass
    ∷ s.solids
    ∷ s.reactor
    ∷ s.surface
    ∷ s.depth
    ∷ s.settling
    ∷ s.total
    ∷ s.recirculation
    ∷ s.oxygen
    ∷ s.transfer
    ∷ []

-- the target that a date is answered with, and the index of an answer on existing tanks: the smallest that is lost; 0 where there is
-- none, and where the answer is a refusal
unfoldable pub value_or_zero : Result (Option ℕ) Refusal → ℕ
value_or_zero (Ok (Some n)) = n
value_or_zero (Ok None) = 0
value_or_zero (Err n) = 0

-- the number and the sheet of an advance's answer: of a refusal its number and zeros; of an unfinished sweep 100, which is no number
-- of the paper's, and zeros; of a finished one those of its answer
abbrev pub unfinished_number : ℕ
unfinished_number = 100

unfoldable pub progress_number : Result Progress Refusal → ℕ
progress_number (Err n) = refusal_number n
progress_number (Ok (Progress.Unfinished b)) = unfinished_number
progress_number (Ok (Progress.Finished a)) = answer_number a

unfoldable pub progress_sheet : Result Progress Refusal → Sheet
progress_sheet (Err n) = empty_sheet
progress_sheet (Ok (Progress.Unfinished b)) = empty_sheet
progress_sheet (Ok (Progress.Finished a)) = answer_sheet a

-- the sheet and the price of a priced answer: zeros where it is refused
unfoldable pub price_sheet : Result PricedSheet Refusal → Sheet
price_sheet (Ok s) = s.sheet
price_sheet (Err n) = empty_sheet

unfoldable pub price_value : Result PricedSheet Refusal → ℕ
price_value (Ok s) = s.price
price_value (Err n) = 0

-- the figures of a priced answer: those of the sheet in the listing's order, then the price
abbrev pub price_figures : Result PricedSheet Refusal → List ℕ
price_figures a = sheet_figures (price_sheet a) ++ (price_value a ∷ [])
