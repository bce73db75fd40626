-- Document 02, a sweep that can be put down: the order in which it goes through the grid, the candidates of a stretch of it, and the
-- best of a set of candidates by the order of choosing. No search stands here. Assumes nothing.
use Rattle.std.specs.Prelude.{ℕ, ◌+◌, ◌-◌, ◌*◌, ◌/◌, ◌%◌, ◌≤◌, ◌<◌, ◌⊎◌, ◌≡◌, Bool, true, T, Ok, Err, Option, Some, None}
use Rattle.rules.specs.Limits.{least_fraction, least_ratio, least_time}
use Rattle.rules.specs.AgeNitrate.{on_grid}
use Rattle.rules.specs.Examining.{sheet_of, permitted}
use Rattle.rules.specs.Choosing.{Candidates, NotBefore}
use Rattle.rules.specs.declared.Plant.{Plant}
use Rattle.rules.specs.declared.TankFlow.{TankFlow}
use Rattle.rules.specs.declared.Concentrations.{Concentrations}
use Rattle.rules.specs.declared.Candidate.{Candidate}
use Rattle.rules.specs.declared.Refusal.{Refusal}
use Rattle.rules.specs.Results.{Answer}

-- how many thickening times the grid has, and how many candidates with one fraction
abbrev pub times : ℕ
times = 6

abbrev pub per_fraction : TankFlow → ℕ
per_fraction TankFlow.Horizontal = 276
per_fraction TankFlow.Vertical = 426

-- The order: rising fraction, then return ratio, then thickening time, which changes at each step. The candidate at a place of it,
-- counted from 0 ..
unfoldable pub candidate_at : TankFlow → ℕ → Candidate
candidate_at flow i =
    record {
      fraction = least_fraction + i / per_fraction flow;
      return_ratio = least_ratio + i % per_fraction flow / times;
      thickening = least_time + i % times;
    }

-- .. and the place of a candidate
unfoldable pub order_of : TankFlow → Candidate → ℕ
order_of flow y =
    (y.fraction - least_fraction) * per_fraction flow + (y.return_ratio - least_ratio) * times + (y.thickening - least_time)

-- the candidates of a plant's grid from one place on, before another
pub record Stretch (p : Plant) (from to : ℕ) (y : Candidate) : Type 0 where
  pub on_grid : T (on_grid p.tank y)
  pub since : from ≤ order_of p.tank y
  pub before : order_of p.tank y < to

-- those among the first n
abbrev pub First : Plant → ℕ → Candidates
First p n = Stretch p 0 n

-- the best that is handed on, if any, as a set
abbrev pub HandedOn : Option Candidate → Candidates
HandedOn None y = ⊥
HandedOn (Some d) y = y ≡ d

-- one set and another together
abbrev pub Together : Candidates → Candidates → Candidates
Together a b y = a y ⊎ b y

-- The best of a set of candidates by the order of choosing: permitted, and no permitted one of the set comes before it; or none
-- yet, and none of them is permitted.
abbrev pub BestAmong : Plant → Concentrations → Candidates → Option Candidate → Type 0
BestAmong p x among None = (y : Candidate) → among y → T (permitted p x y) → ⊥
BestAmong p x among (Some d) =
    among d × T (permitted p x d) × ((y : Candidate) → among y → T (permitted p x y) → NotBefore p x d y)

-- a best that may be handed on: permitted, or none yet
unfoldable pub best_kept : Plant → Concentrations → Option Candidate → Bool
best_kept p x None = true
best_kept p x (Some d) = permitted p x d

-- what a best answers once nothing is left to ask for: its sheet, or 5
unfoldable pub best_answer : Plant → Concentrations → Option Candidate → Answer
best_answer p x None = Err Refusal.NoDesign
best_answer p x (Some d) = Ok (sheet_of p x d)
