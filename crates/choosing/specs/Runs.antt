-- What a sweep goes through: the tanks of a fraction by their places in the table, and the fractions; and the mass of a fraction, by
-- which it is gone through or passed over. Assumes nothing.
use Rattle.std.specs.Prelude.{ℕ, ◌+◌, ◌-◌, ◌*◌, ◌≤◌, ◌<◌, ◌≡◌, T, Ok, Err, Option, Some, None}
use Rattle.rules.specs.Rules.{verdict}
use Rattle.rules.specs.Limits.{least_ratio, least_time}
use Rattle.rules.specs.AgeNitrate.{on_grid}
use Rattle.rules.specs.ReactorSteps.{reactor_of}
use Rattle.rules.specs.Ranges.{GridFraction}
use Rattle.rules.specs.Examining.{fraction_rules}
use Rattle.rules.specs.Sweep.{times}
use Rattle.rules.specs.declared.accepted.Accepted.{Accepted}
use Rattle.rules.specs.declared.Plant.{Plant}
use Rattle.rules.specs.declared.Concentrations.{Concentrations}
use Rattle.rules.specs.declared.Candidate.{Candidate}
use Rattle.rules.specs.Results.{Verdict}
use Rattle.choosing.specs.declared.keys.Key.{Key}
use Rattle.choosing.specs.Keys.{LeastKey}

-- the sludge mass at a fraction, if it keeps the rules of the fraction
abbrev pub mass_by : Verdict → ℕ → Option ℕ
mass_by (Ok u) mass = Some mass
mass_by (Err n) mass = None

unfoldable pub kept_mass : Plant → Concentrations → ℕ → Option ℕ
kept_mass p x f = mass_by (verdict (fraction_rules p x (reactor_of p x f))) (reactor_of p x f).mass

-- a fraction of the grid keeps its rules with this mass
pub record Covered (d : Accepted) (f mass : ℕ) : Type 0 where
  pub fraction : GridFraction f
  pub value : kept_mass d.plant d.concentrations f ≡ Some mass

-- the place of a return ratio and a thickening time in the table of tanks
abbrev pub tank_index : ℕ → ℕ → ℕ
tank_index r h = (r - least_ratio) * times + (h - least_time)

-- the candidates of a fraction with the tanks from one place of the table on, before another
pub record Run (p : Plant) (f from to : ℕ) (y : Candidate) : Type 0 where
  pub on_grid : T (on_grid p.tank y)
  pub own : y.fraction ≡ f
  pub since : from ≤ tank_index y.return_ratio y.thickening
  pub before : tank_index y.return_ratio y.thickening < to

abbrev pub LeastOfRun : Accepted → ℕ → ℕ → ℕ → Option Key → Type 0
LeastOfRun d f from to key = LeastKey d.plant d.concentrations (Run d.plant f from to) key

-- the candidates of the fractions from one on, before another
pub record Fractions (p : Plant) (first past : ℕ) (y : Candidate) : Type 0 where
  pub on_grid : T (on_grid p.tank y)
  pub since : first ≤ y.fraction
  pub before : y.fraction < past

abbrev pub LeastOfFractions : Accepted → ℕ → ℕ → Option Key → Type 0
LeastOfFractions d first past key = LeastKey d.plant d.concentrations (Fractions d.plant first past) key

-- a mass is that of a covered fraction from one on, before another, or there is none
abbrev pub Lightest : Accepted → ℕ → ℕ → Option ℕ → Type 0
Lightest d first past None = Unit {0}
Lightest d first past (Some m) = (e : ℕ) × (first ≤ e) × (e < past) × (kept_mass d.plant d.concentrations e ≡ Some m)
