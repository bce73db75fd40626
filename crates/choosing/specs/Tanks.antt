-- The table of settling tanks. Assumes nothing.
use Rattle.std.specs.Prelude.{ℕ, ◌+◌, ◌/◌, ◌%◌, ◌<◌, ◌≡◌, List, length, get_or, Ok, Err, Option, Some, None, IfSome, ◌-◌, ◌≢◌}
use Rattle.rules.specs.Rules.{verdict}
use Rattle.rules.specs.Limits.{least_ratio, least_time, least_solids, most_reactor_solids}
use Rattle.rules.specs.ReactorSteps.{reactor_solids}
use Rattle.rules.specs.SettlingSteps.{settling_of}
use Rattle.rules.specs.Ranges.{Between}
use Rattle.rules.specs.Examining.{tank_rules}
use Rattle.rules.specs.Sweep.{times, per_fraction}
use Rattle.rules.specs.declared.Plant.{Plant}
use Rattle.rules.specs.Results.{Verdict}
use Rattle.choosing.specs.declared.tanks.Tank.{Tank}

-- the tank's E' and volume, if it keeps the rules of the tank
abbrev pub tank_by : Verdict → Tank → Option Tank
tank_by (Ok u) tank = Some tank
tank_by (Err n) tank = None

unfoldable pub tank_of : Plant → ℕ → ℕ → Option Tank
tank_of p r h =
    tank_by (verdict (tank_rules p (settling_of p r h)))
    (record { solids = reactor_solids p.process (settling_of p r h).solids; volume = (settling_of p r h).volume })

-- the limits of a tank that keeps the rules
abbrev pub TankBounds : Tank → Type 0
TankBounds t = Between least_solids most_reactor_solids t.solids

-- the tank at a place of the table, if it keeps the rules of the tank, in its limits
abbrev pub TankAt : Plant → ℕ → Option Tank → Type 0
TankAt p i t = (t ≡ tank_of p (least_ratio + i / times) (least_time + i % times)) × IfSome t TankBounds

-- a table holds the tanks of a plant with the first k thickening times
pub record FilledTo (p : Plant) (k : ℕ) (table : List (Option Tank)) : Type 0 where
  pub size : length table ≡ 426
  pub holds : (i : ℕ) → i < per_fraction p.tank → i % times < k → TankAt p i (get_or table i None)

-- all of them
abbrev pub Filled : Plant → List (Option Tank) → Type 0
Filled p table = FilledTo p times table

-- a table that holds the tanks of a plant with the k-th thickening time and the first j return ratios, and is as it was otherwise
pub record TimeFilledTo (p : Plant) (k j : ℕ) (old table : List (Option Tank)) : Type 0 where
  pub size : length table ≡ length old
  pub holds : (i : ℕ) → i < per_fraction p.tank → i % times ≡ k → i / times < j → TankAt p i (get_or table i None)
  pub kept : (i : ℕ) → i % times ≢ k → get_or table i None ≡ get_or old i None

abbrev pub TimeFilled : Plant → ℕ → List (Option Tank) → List (Option Tank) → Type 0
TimeFilled p h old table = TimeFilledTo p (h - least_time) (per_fraction p.tank) old table
