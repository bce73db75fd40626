-- What the call on a day log promises: the highest two-week load, or 12 or 13 with zeros. It names no recursion.
-- Assumes nothing.
use Rattle.std.specs.Prelude.{ℕ, ◌+◌, ◌*◌, ◌≤◌, ◌<◌, ◌⊎◌, ◌≡◌, not, List, T, length}
use Rattle.rules.specs.Ranges.{Between}
use Rattle.rules.specs.Rules.{all_kept, FirstBroken}
use Rattle.rules.specs.Outcomes.{Refuses}
use Rattle.rules.specs.DayLog.{day_count, day_of, day_kept, window_load, log_rules, load_figures}
use Rattle.rules.specs.declared.TwoWeekLoad.{TwoWeekLoad}

-- rule 12 keeps a whole log (`due_12`)
pub record Whole (log : List ℕ) : Type 0 where
  pub count : Between 14 3_660 (day_count log)
  pub size : length log ≡ 4 + 8 * day_count log

-- rule 13 is broken by a day of which a value is not kept (`due_13`)
pub record BrokenDay (log : List ℕ) (n : ℕ) : Type 0 where
  pub day : ℕ
  pub first : 1 ≤ day
  pub last : day ≤ n
  pub broken : T (not (day_kept (day_of log day)))

-- a window starts on day d and ends within the log
pub record WindowDay (log : List ℕ) (d : ℕ) : Type 0 where
  pub first : 1 ≤ d
  pub last : d + 13 ≤ day_count log

-- the load is that of the window which starts on its day; none is larger, and every earlier one is smaller
pub record Highest (log : List ℕ) (load : TwoWeekLoad) : Type 0 where
  pub is_window : WindowDay log load.day
  pub exact : window_load log load.day ≡ load.sum
  pub no_larger : (d : ℕ) → WindowDay log d → window_load log d ≤ load.sum
  pub earlier_smaller : (d : ℕ) → WindowDay log d → d < load.day → window_load log d < load.sum

-- 0 and the highest load of a log that keeps both rules ..
pub record Loads (log : List ℕ) (number : ℕ) (load : TwoWeekLoad) : Type 0 where
  pub numbered : number ≡ 0
  pub kept : T (all_kept (log_rules log))
  pub highest : Highest log load

-- .. or the first of 12 and 13 that is broken, and zeros
abbrev pub LoadOutcome : List ℕ → ℕ → TwoWeekLoad → Type 0
LoadOutcome log number load = Loads log number load ⊎ Refuses (FirstBroken (log_rules log)) number (load_figures load)
