-- What a candidate on the grid is judged by, for the contracts of the inner functions. Assumes nothing.
use Rattle.std.specs.Prelude.{◌≡◌, ◌++◌}
use Rattle.rules.specs.Rules.{verdict}
use Rattle.rules.specs.ReactorSteps.{reactor_of}
use Rattle.rules.specs.SettlingSteps.{settling_of}
use Rattle.rules.specs.Examining.{fraction_rules, tank_rules, answer_by, sheet_of}
use Rattle.rules.specs.declared.Plant.{Plant}
use Rattle.rules.specs.declared.Concentrations.{Concentrations}
use Rattle.rules.specs.declared.Candidate.{Candidate}
use Rattle.rules.specs.Results.{Answer}
use Rattle.examining.specs.declared.Stages.{Stages}

-- the stages are the steps', and the verdict is that on the rules of fraction and tank
pub record StagesOf (p : Plant) (x : Concentrations) (y : Candidate) (s : Stages) : Type 0 where
  pub reactor : s.reactor ≡ reactor_of p x y.fraction
  pub settling : s.settling ≡ settling_of p y.return_ratio y.thickening
  pub verdict : s.verdict ≡ verdict (fraction_rules p x s.reactor ++ tank_rules p s.settling)

-- a candidate on the grid whose fraction keeps its rules: what the tank's verdict makes of its sheet
unfoldable pub judge_tank : Plant → Concentrations → Candidate → Answer
judge_tank p x y = answer_by (verdict (tank_rules p (settling_of p y.return_ratio y.thickening))) (sheet_of p x y)
