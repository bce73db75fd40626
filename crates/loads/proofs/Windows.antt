-- What the window holds once days of a log are passed. Assumes nothing.
use Rattle.std.specs.Prelude.{ℕ, ◌+◌, ◌-◌, ◌%◌, ◌≤◌, ◌<◌, ◌≡◌, cond, List, ltb, length, get_or, true}
use Rattle.rules.specs.Sums.{sum_from}
use Rattle.rules.specs.DayLog.{day_of, days_kept, day_load, window_load, highest_of}
use Rattle.loads.specs.declared.Window.{Window}
use Rattle.loads.specs.declared.Window.{Window}

-- the loads of the days, with 14 days without a load before the first
unfoldable pub padded : (ℕ → ℕ) → ℕ → ℕ
padded g j = cond (ltb j 14) 0 (g (j - 13))

abbrev pub load_on : List ℕ → ℕ → ℕ
load_on log d = day_load (day_of log d)

-- the window once the days 1 to n of a log are passed, each of them kept
pub record Passed (log : List ℕ) (n : ℕ) (w : Window) : Type 0 where
  pub size : length w.loads ≡ 14
  pub holds : (j : ℕ) → n ≤ j → j < n + 14 → get_or w.loads (j % 14) 0 ≡ padded (load_on log) j
  pub sum : w.sum ≡ sum_from n 14 (padded (load_on log))
  pub days : w.days ≡ n
  pub highest : w.highest ≡ highest_of (window_load log) (n - 13)
  pub kept : days_kept log n ≡ true
