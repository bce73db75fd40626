-- The window that a pass over the day log moves on, for the contracts of the inner functions. 14 days without a load stand
-- before the first; so every day is one and the same step. Assumes nothing.
use Rattle.std.specs.Prelude.{ℕ, ◌+◌, ◌-◌, ◌*◌, ◌%◌, ◌≤◌, ◌<◌, cond, leb, Float, get_or, set, Result, Ok, Err}
use Rattle.rules.specs.LabReadings.{thousandths}
use Rattle.rules.specs.DayLog.{value_kept, day_kept, day_load, higher}
use Rattle.rules.specs.declared.Day.{Day}
use Rattle.rules.specs.declared.Refusal.{Refusal}
use Rattle.rules.specs.declared.TwoWeekLoad.{TwoWeekLoad}
use Rattle.loads.specs.declared.Window.{Window}

-- a value of a day in thousandths, or 13 where it is refused
unfoldable pub day_value : ℕ → Float → Result ℕ Refusal
day_value most x = cond (value_kept most x) (Ok (thousandths 1 x)) (Err Refusal.DayValue)

-- a day's load, or 13 where one of its values is refused
unfoldable pub kept_load : Day → Result ℕ Refusal
kept_load x = cond (day_kept x) (Ok (day_load x)) (Err Refusal.DayValue)

abbrev pub most_load : ℕ
most_load = 400_000_000_000_000

-- the highest load once so many days are passed: from the fourteenth day on, each day ends a window
unfoldable pub highest_after : TwoWeekLoad → ℕ → ℕ → TwoWeekLoad
highest_after best sum days = cond (leb 14 days) (higher best sum (days - 13)) best

-- the load that a window lets go when one more day is passed
abbrev pub oldest : Window → ℕ
oldest w = get_or w.loads (w.days % 14) 0

-- the window once a load has come in the place of the oldest
unfoldable pub moved : Window → ℕ → Window
moved w load =
    record {
      loads = set w.loads (w.days % 14) load;
      sum = w.sum + load - oldest w;
      days = w.days + 1;
      highest = highest_after w.highest (w.sum + load - oldest w) (w.days + 1);
    }

-- the window once a day is passed, or 13 where the day is refused
unfoldable pub stepped : Window → Day → Result Window Refusal
stepped w x = cond (day_kept x) (Ok (moved w (day_load x))) (Err Refusal.DayValue)

-- a load can come in
pub record Room (w : Window) : Type 0 where
  pub sum : w.sum ≤ 14 * most_load
  pub days : w.days < 3_660
  pub oldest : oldest w ≤ w.sum
