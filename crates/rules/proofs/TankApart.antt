-- What does not know the settling tank, so that a change of its steps, as that of the bottom sludge, leaves it as it was: of a
-- sheet all figures but six, and the refusals 6, 7, 15 and 16. Assumes nothing.
use mathlib.Core.Path.{◌≡◌, refl, ap, ◌∙◌}
use mathlib.Core.List.{List, [], ◌∷◌, ◌++◌}
use Prim.Native.Nat.{ℕ}
use Rattle.std.specs.Prelude.{Err}
use Rattle.rules.specs.Rules.{verdict, after}
use Rattle.rules.specs.ReactorSteps.{reactor_of}
use Rattle.rules.specs.AerationSteps.{aeration_of}
use Rattle.rules.specs.SettlingSteps.{settling_of}
use Rattle.rules.specs.Examining.{sheet_from, sheet_of, grid_rule, fraction_rules, tank_rules, candidate_rules}
use Rattle.rules.specs.declared.Plant.{Plant}
use Rattle.rules.specs.declared.Concentrations.{Concentrations}
use Rattle.rules.specs.declared.Candidate.{Candidate}
use Rattle.rules.specs.declared.Settling.{Settling}
use Rattle.rules.specs.declared.Sheet.{Sheet}
use Rattle.rules.specs.declared.Refusal.{Refusal}
use Rattle.rules.specs.Results.{Verdict}
use Rattle.rules.proofs.RuleLists.{verdict_append}

-- the figures of a sheet that are not the tank's: all but solids, reactor, surface, depth, settling and total
abbrev pub apart_from_tank : Sheet → List ℕ
apart_from_tank s =
    s.fraction ∷ s.return_ratio ∷ s.thickening ∷ s.age ∷ s.sludge ∷ s.mass ∷ s.recirculation ∷ s.oxygen ∷ s.transfer ∷ []

-- they are the same with any other tank
pub figures_apart :
    (p : Plant) (x : Concentrations) (y : Candidate) (other : Settling)
    → apart_from_tank (sheet_of p x y)
    ≡ apart_from_tank (sheet_from p y (reactor_of p x y.fraction) other (aeration_of p x (reactor_of p x y.fraction)))
unfolding sheet_of sheet_from
figures_apart p x y other = refl

-- a candidate that breaks 6, 7, 15 or 16 gets that refusal with any other tank
pub refusal_apart :
    (p : Plant) (x : Concentrations) (y : Candidate) (other : Settling) (n : Refusal)
    → verdict (grid_rule p y ∷ fraction_rules p x (reactor_of p x y.fraction)) ≡ Err n
    → (verdict (candidate_rules p x y) ≡ Err n)
    × (verdict (grid_rule p y ∷ (fraction_rules p x (reactor_of p x y.fraction) ++ tank_rules p other)) ≡ Err n)
unfolding candidate_rules
refusal_apart p x y other n e = (with_tank (settling_of p y.return_ratio y.thickening), with_tank other)
  where
    with_tank : (settling : Settling) → verdict (grid_rule p y ∷ (fraction_rules p x (reactor_of p x y.fraction) ++ tank_rules p settling)) ≡ Err n
    with_tank settling =
        verdict_append (grid_rule p y ∷ fraction_rules p x (reactor_of p x y.fraction)) (tank_rules p settling)
        ∙ ap (λ (v : Verdict). after v (verdict (tank_rules p settling))) e
