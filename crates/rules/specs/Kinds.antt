-- The codes of the plant's kinds: the largest of each, and what each code stands for. A code above the largest stands for none, and
-- here with the largest. Assumes nothing.
use Rattle.std.specs.Prelude.{ℕ, cond, eqb}
use Rattle.rules.specs.declared.Steps.{Steps}
use Rattle.rules.specs.declared.Process.{Process}
use Rattle.rules.specs.declared.Precipitant.{Precipitant}
use Rattle.rules.specs.declared.TankFlow.{TankFlow}
use Rattle.rules.specs.declared.Removal.{Removal}
use Rattle.rules.specs.declared.PrimarySettling.{PrimarySettling}
use Rattle.rules.specs.declared.Way.{Way}

abbrev pub last_process : ℕ
last_process = 4

abbrev pub process_of : ℕ → Process
process_of code =
    cond (eqb code 0) Process.PreAnoxic
    (cond (eqb code 1) Process.Simultaneous
    (cond (eqb code 2) Process.Intermittent
    (cond (eqb code 3) (Process.StepFeed Steps.Two) (Process.StepFeed Steps.Three))))

abbrev pub last_precipitant : ℕ
last_precipitant = 1

abbrev pub precipitant_of : ℕ → Precipitant
precipitant_of code = cond (eqb code 0) Precipitant.Iron Precipitant.Aluminium

abbrev pub last_tank_flow : ℕ
last_tank_flow = 1

abbrev pub tank_flow_of : ℕ → TankFlow
tank_flow_of code = cond (eqb code 0) TankFlow.Horizontal TankFlow.Vertical

abbrev pub last_removal : ℕ
last_removal = 2

abbrev pub removal_of : ℕ → Removal
removal_of code = cond (eqb code 0) Removal.Scraper (cond (eqb code 1) Removal.Suction Removal.Hopper)

abbrev pub last_primary_settling : ℕ
last_primary_settling = 2

abbrev pub primary_settling_of : ℕ → PrimarySettling
primary_settling_of code =
    cond (eqb code 0) PrimarySettling.None (cond (eqb code 1) PrimarySettling.Short PrimarySettling.Long)

abbrev pub last_way : ℕ
last_way = 1

abbrev pub way_of : ℕ → Way
way_of code = cond (eqb code 0) Way.Bod Way.Cod
