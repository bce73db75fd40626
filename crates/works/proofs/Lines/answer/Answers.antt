-- `Lines::answer` meets its contract: a line without a part of 0 is in one plant's ranges, and the choice is its own. Assumes nothing.
use Rattle.std.proofs.Common.{◌≡◌, Bool, true, false, cond, Ok, Err}
use Rattle.std.proofs.lemmas.Result.{err_from_is_err_and}
use lib.Dec.{T}
use Rattle.rules.specs.Results.{Verdict, Answer}
use Rattle.rules.specs.Lines.{line_of, line_positive, LineChosenBy}
use Rattle.rules.specs.Choosing.{grid, ChosenAmong}
use Rattle.rules.specs.declared.Plant.{Plant}
use Rattle.rules.specs.declared.Concentrations.{Concentrations}
use Rattle.rules.specs.declared.Refusal.{Refusal}
use Rattle.rules.proofs.LineLaws.{line_ranges}
use Rattle.works.proofs.Lines.answer.Goals as goal

-- what the rule says of a line, and what is chosen for it
refused : (b : Bool) (line : Plant) (x : Concentrations) {n : Refusal} → ◌≡◌ {A = Verdict} (Err n) (cond b (Ok tt) (Err Refusal.PlantData)) → LineChosenBy b line x (Err n)
refused true line x e = let z : ⊥ = cc in absurd z
refused false line x e = cc

chosen : (b : Bool) (line : Plant) (x : Concentrations) (a : Answer) → ◌≡◌ {A = Verdict} (Ok tt) (cond b (Ok tt) (Err Refusal.PlantData)) → ChosenAmong line x (grid line) a → LineChosenBy b line x a
chosen true line x a e h = h
chosen false line x a e h = cc

positive : (b : Bool) → ◌≡◌ {A = Verdict} (Ok tt) (cond b (Ok tt) (Err Refusal.PlantData)) → T b
positive true e = tt
positive false e = let z : ⊥ = cc in absurd z

pub returns-in_err-rule : goal.returns-in_err-rule
returns-in_err-rule c =
    let p = err_from_is_err_and c.from_residual.result c.from_residual.ensures.1 in
    rw (← c.plant-plant.ensures, ← c.line_positive.ensures, p.1, p.2) (refused _ _ _ c.in_err-rule.ensures)

pub invariant_of-choose_accepted : goal.invariant_of-choose_accepted
invariant_of-choose_accepted c =
    let known = c.args.self.now.accepted.now in
    let positive : T (line_positive (line_of known.plant c.args.self.now.split.now c.args.i)) =
    rw (← c.plant-plant.ensures, ← c.line_positive.ensures) (positive _ c.in_ok-rule.ensures) in
    record {
      plant_ranges = rw c.plant-plant.ensures (line_ranges known.plant c.args.self.now.split.now c.args.i c.args.self.now.valid c.requires known.plant_ranges positive);
      concentration_ranges = known.concentration_ranges;
    }

pub returns : goal.returns
returns c = rw (← c.plant-plant.ensures, ← c.line_positive.ensures) (chosen _ _ _ _ c.in_ok-rule.ensures c.choose_accepted.ensures)
