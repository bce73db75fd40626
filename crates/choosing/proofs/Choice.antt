-- From the least key over all fractions to the design chosen: none is nothing permitted, a key names the best. Assumes nothing.
use mathlib.Core.Path.{◌≡◌, sym, ap, ◌∙◌, subst}
use mathlib.Core.Logic.{◌↔◌}
use Prim.Native.Nat.{◌+◌}
use native.Mathlib.Omega.{arith}
use Rattle.std.specs.Prelude.{Option, Some, None}
use Rattle.rules.specs.Limits.{least_fraction, most_fraction}
use Rattle.rules.specs.Choosing.{Candidates, grid, ChosenAmong}
use Rattle.rules.specs.Sweep.{BestAmong}
use Rattle.rules.specs.declared.accepted.Accepted.{Accepted}
use Rattle.rules.specs.declared.Plant.{Plant}
use Rattle.rules.specs.declared.Concentrations.{Concentrations}
use Rattle.rules.specs.declared.Candidate.{Candidate}
use Rattle.rules.specs.Results.{Answer}
use Rattle.rules.proofs.RangeFacts.{grid_ranges}
use Rattle.rules.proofs.BestLaws.{best_designed, best_same}
use Rattle.examining.proofs.Verdicts.{permitted_by_tank}
use Rattle.examining.specs.Stages.{judge_tank}
use Rattle.choosing.specs.declared.keys.Key.{Key}
use Rattle.choosing.specs.Keys.{key_candidate, key_best, LeastKey}
use Rattle.choosing.specs.Runs.{Fractions, LeastOfFractions}

-- the least key of a set names its best
pub names_best : (p : Plant) (x : Concentrations) (among : Candidates) (b : Option Key) → LeastKey p x among b → BestAmong p x among (key_best b)
names_best p x among None l = l
names_best p x among (Some k) l = l.1

-- the fractions of the grid are the grid
pub whole : (d : Accepted) (b : Option Key) → LeastOfFractions d least_fraction (most_fraction + 1) b → BestAmong d.plant d.concentrations (grid d.plant) (key_best b)
whole d b l =
    best_same d.plant d.concentrations (Fractions d.plant least_fraction (most_fraction + 1)) (grid d.plant) (key_best b) same
    (names_best d.plant d.concentrations (Fractions d.plant least_fraction (most_fraction + 1)) b l)
  where
    same : (y : Candidate) → Fractions d.plant least_fraction (most_fraction + 1) y ↔ grid d.plant y
    same y = (
      λ v. v.on_grid,
      λ g. let r = (grid_ranges d.plant.tank y).0 g in record { on_grid = g; since = r.fraction.least; before = omega (arith, r.fraction) },
    )

-- the sheet of its candidate's tank is the design chosen
pub designed :
    (d : Accepted) (k : Key) (y : Candidate) (a : Answer) → LeastOfFractions d least_fraction (most_fraction + 1) (Some k)
    → y ≡ key_candidate k
    → a ≡ judge_tank d.plant d.concentrations y
    → ChosenAmong d.plant d.concentrations (grid d.plant) a
designed d k y a l named e =
    let best = whole d (Some k) l in
    subst (ChosenAmong d.plant d.concentrations (grid d.plant))
    (sym (e ∙ (ap (judge_tank d.plant d.concentrations) named ∙ permitted_by_tank d.plant d.concentrations (key_candidate k) best.1)))
    (best_designed d.plant d.concentrations (grid d.plant) (key_candidate k) best)
