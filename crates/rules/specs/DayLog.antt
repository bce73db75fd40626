-- The day log and its highest load over 14 consecutive days, with the refusals 12 and 13. The log is a day count n in 32
-- bits, then n flows in m3/d, then n BOD values in mg/l, each an f32, all with the lowest byte first. Days are counted
-- from 1. Assumes nothing.
use Rattle.std.specs.Prelude.{ℕ, zero, suc, ◌+◌, ◌-◌, ◌*◌, Bool, true, cond, not, ◌&&◌, List, [], ◌∷◌, leb, ltb, eqb, Float, length, Result, Ok, Err}
use Rattle.std.specs.Float.{binary32}
use Rattle.std.specs.Float.Ieee.{of_bits}
use Rattle.words.specs.Bytes.{word}
use Rattle.rules.specs.Sums.{sum_from}
use Rattle.rules.specs.PlantData.{within}
use Rattle.rules.specs.LabReadings.{no_number, thousandths}
use Rattle.rules.specs.Rules.{Rule, rule, verdict}
use Rattle.rules.specs.declared.Refusal.{Refusal}
use Rattle.rules.specs.Results.{Verdict}
use Rattle.rules.specs.declared.Day.{Day}
use Rattle.rules.specs.declared.TwoWeekLoad.{TwoWeekLoad}

-- ---- the log

-- n, the day count: the first word. (Bytes past the log's end count as 0 here; rule 12 sees that none is missing.)
abbrev pub day_count : List ℕ → ℕ
day_count log = word log 0

-- day d: its flow is the word d, its BOD the word n + d
unfoldable pub day_of : List ℕ → ℕ → Day
day_of log d = record { flow = of_bits binary32 (word log d); bod = of_bits binary32 (word log (day_count log + d)) }

-- rule 12: the count is in its range, and the log is as long as it says
unfoldable pub log_whole : List ℕ → Bool
log_whole log = within 14 3_660 (day_count log) && eqb (length log) (4 + 8 * day_count log)

-- the largest flow and BOD, thousandths
abbrev pub most_flow : ℕ
most_flow = 200_000_000

abbrev pub most_bod : ℕ
most_bod = 2_000_000

-- a value is a number, and not too large in thousandths
abbrev pub value_kept : ℕ → Float → Bool
value_kept most x = not (no_number x) && leb (thousandths 1 x) most

unfoldable pub day_kept : Day → Bool
day_kept x = value_kept most_flow x.flow && value_kept most_bod x.bod

-- rule 13: both values of each of the first n days are kept
unfoldable pub days_kept : List ℕ → ℕ → Bool
days_kept log zero = true
days_kept log (suc n) = days_kept log n && day_kept (day_of log (n + 1))

-- ---- the loads

-- a day's load: flow by BOD, each in thousandths as a measured reading is
unfoldable pub day_load : Day → ℕ
day_load x = thousandths 1 x.flow * thousandths 1 x.bod

-- the load over the 14 days from day d on
unfoldable pub window_load : List ℕ → ℕ → ℕ
window_load log d = sum_from d 14 (λ i. day_load (day_of log i))

-- a later window takes the place of the highest so far if its sum is larger
unfoldable pub higher : TwoWeekLoad → ℕ → ℕ → TwoWeekLoad
higher best sum day = cond (ltb best.sum sum) (record { sum = sum; day = day }) best

-- the highest of the first n windows, w of the day that each starts on; 0 on day 1 to begin with
unfoldable pub highest_of : (ℕ → ℕ) → ℕ → TwoWeekLoad
highest_of w zero = record { sum = 0; day = 1 }
highest_of w (suc n) = higher (highest_of w n) (w (n + 1)) (n + 1)

-- how many windows the log has: the last starts 13 days before its end
abbrev pub windows : List ℕ → ℕ
windows log = day_count log - 13

-- ---- the answer

-- 12, then 13
unfoldable pub log_rules : List ℕ → List Rule
log_rules log = rule Refusal.DayLog (log_whole log) ∷ rule Refusal.DayValue (days_kept log (day_count log)) ∷ []

unfoldable pub load_by : Verdict → TwoWeekLoad → Result TwoWeekLoad Refusal
load_by (Ok u) load = Ok load
load_by (Err n) load = Err n

-- the highest two-week load of any bytes, or the first refusal due
unfoldable pub two_week_load : List ℕ → Result TwoWeekLoad Refusal
two_week_load log = load_by (verdict (log_rules log)) (highest_of (window_load log) (windows log))

-- the load that an answer carries: sum 0 and day 0 where it is refused
unfoldable pub load_of : Result TwoWeekLoad Refusal → TwoWeekLoad
load_of (Ok load) = load
load_of (Err n) = record { sum = 0; day = 0 }

-- a load's figures in their order
abbrev pub load_figures : TwoWeekLoad → List ℕ
load_figures load = load.sum ∷ load.day ∷ []
