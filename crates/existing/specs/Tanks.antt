-- The tank's part of an index that is won: what depends on the index and the return ratio. Assumes nothing.
use Rattle.std.specs.Prelude.{ℕ, ◌≤◌, ◌<◌, Bool, true, false, ◌&&◌, T, leb, Option, Some, None}
use Rattle.rules.specs.Limits.{least_ratio}
use Rattle.rules.specs.Rules.{all_kept}
use Rattle.rules.specs.AgeNitrate.{largest_return_ratio}
use Rattle.rules.specs.ReactorSteps.{reactor_solids, reactor_volume}
use Rattle.rules.specs.SettlingSteps.{settling_of}
use Rattle.rules.specs.Examining.{tank_rules}
use Rattle.rules.specs.OtherSteps.{with_index}
use Rattle.rules.specs.Existing.{InSpan}
use Rattle.rules.specs.declared.Plant.{Plant}
use Rattle.rules.specs.declared.Existing.{Existing}
use Rattle.rules.specs.declared.IndexSpan.{IndexSpan}

-- reactor volume, surface and depth are built
abbrev pub sizes_fit : Existing → ℕ → ℕ → ℕ → Bool
sizes_fit e reactor surface depth = leb reactor e.reactor && (leb surface e.surface && leb depth e.depth)

-- the settling tank of a return ratio keeps its rules, and it and the reactor for this mass of sludge are built
unfoldable pub tank_wins : Plant → Existing → ℕ → ℕ → Bool
tank_wins p e mass ratio =
    let s = settling_of p ratio e.thickening in
    all_kept (tank_rules p s) && sizes_fit e (reactor_volume mass (reactor_solids p.process s.solids)) s.surface s.depth

-- a test tells whether something holds
abbrev pub Decides : Type 0 → Bool → Type 0
Decides A true = A
Decides A false = A → ⊥

-- a plant's index can be won: by the tank of some return ratio of the grid
pub record TankWon (p : Plant) (e : Existing) (mass : ℕ) : Type 0 where
  pub ratio : ℕ
  pub least : least_ratio ≤ ratio
  pub most : ratio ≤ largest_return_ratio p.tank
  pub won : T (tank_wins p e mass ratio)

abbrev pub WonAt : Plant → Existing → ℕ → ℕ → Type 0
WonAt p e mass index = TankWon (with_index index p) e mass

-- no index of the span is lost, or the smallest that is
pub record FirstLost (p : Plant) (e : Existing) (mass : ℕ) (span : IndexSpan) (index : ℕ) : Type 0 where
  pub member : InSpan span index
  pub lost : WonAt p e mass index → ⊥
  pub smaller : (i : ℕ) → InSpan span i → i < index → WonAt p e mass i

abbrev pub SpanTried : Plant → Existing → ℕ → IndexSpan → Option ℕ → Type 0
SpanTried p e mass span None = (i : ℕ) → InSpan span i → WonAt p e mass i
SpanTried p e mass span (Some index) = FirstLost p e mass span index
