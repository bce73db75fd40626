-- What the inflow, the design and the terms of a consent ask of a reactor, reckoned once for a plant: the figures that do not
-- depend on the fraction. For the contracts of the inner functions. Assumes nothing.
use Rattle.std.specs.Prelude.{ℕ, ◌-◌, ◌*◌, ◌≤◌, min, ◌≡◌, Bool, cond, leb, List, length, get_or, ◌<◌}
use Rattle.rules.specs.Rounding.{down}
use Rattle.rules.specs.Sums.{values_from}
use Rattle.rules.specs.Limits.{most_terms}
use Rattle.rules.specs.Consent.{no_term}
use Rattle.rules.specs.AgeNitrate.{safety_factor, decay, aerobic_age, nitrified, denitrified, removed_by_bod, removed_by_dose, removable, covered}
use Rattle.rules.specs.ReactorSteps.{sludge_per_phosphorus, phosphorus_sludge}
use Rattle.rules.specs.TermSteps.{aerobic_share, removes_from200}
use Rattle.rules.specs.declared.Plant.{Plant}
use Rattle.rules.specs.declared.Concentrations.{Concentrations}
use Rattle.rules.specs.declared.Term.{Term}
use Rattle.rules.specs.declared.Reactor.{Reactor}
use Rattle.rules.specs.declared.TermExplained.{TermExplained}
use Rattle.reactor.specs.declared.Inflow.{Inflow}
use Rattle.reactor.specs.declared.Season.{Season}
use Rattle.reactor.specs.declared.Seasons.{Seasons}

-- a temperature and a target with the plant's SF
unfoldable pub season_with : ℕ → ℕ → ℕ → Season
season_with factor temperature target =
    record { temperature = temperature; target = target; aerobic_age = aerobic_age factor temperature; decay = decay temperature }

-- a term
unfoldable pub season_of : ℕ → Term → Season
season_of factor term = season_with factor term.temperature term.nitrate_target

-- past the count of a consent: the least figures
abbrev pub no_season : Season
no_season = record { temperature = 4; target = 0; aerobic_age = 1; decay = 0 }

-- entry i of a plant's consent; the least figures past its count
unfoldable pub season_at : Plant → ℕ → Season
season_at p i = cond (leb p.consent.count i) no_season (season_of (safety_factor p.load) (get_or p.consent.terms i no_term))

-- W, D, what the dose removes, and the phosphorus sludge
unfoldable pub inflow_of : Plant → Concentrations → Inflow
inflow_of p x =
    let w = nitrified x.nitrogen x.bod in
    record {
      nitrified = w;
      denitrified = denitrified w p.nitrate_target;
      removed_by_dose = removed_by_dose p.dose;
      phosphorus_sludge = phosphorus_sludge p.flow (sludge_per_phosphorus p.precipitant) x.phosphorus p.phosphorus_target x.bod;
    }

unfoldable pub seasons_of : Plant → Concentrations → Seasons
seasons_of p x =
    record {
      inflow = inflow_of p x;
      design = season_with (safety_factor p.load) p.design_temperature p.nitrate_target;
      count = p.consent.count;
      terms = values_from 0 most_terms (season_at p);
    }

-- the seasons are those of a plant with its inflow, and every term of its consent stands in the list
pub record SeasonsAt (p : Plant) (x : Concentrations) (s : Seasons) : Type 0 where
  pub value : s ≡ seasons_of p x
  pub listed : p.consent.count ≤ length p.consent.terms

-- the seasons are those of a plant's terms
pub record TermSeasons (p : Plant) (l : List Season) : Type 0 where
  pub long : length l ≡ p.consent.count
  pub listed : p.consent.count ≤ length p.consent.terms
  pub each : (i : ℕ) → i < length l → get_or l i no_season ≡ season_of (safety_factor p.load) (get_or p.consent.terms i no_term)

-- nitrification is kept in a season, at the sludge age t
unfoldable pub season_nitrifies : ℕ → Season → Bool
season_nitrifies age s = leb (aerobic_share s.aerobic_age age) 1000

-- the fraction left for denitrification, from f and t
unfoldable pub season_fraction : ℕ → ℕ → Season → ℕ
season_fraction fraction age s = min fraction (1000 - aerobic_share s.aerobic_age age)

-- K × C or what stands for it in a season
unfoldable pub season_removes : Plant → Concentrations → Reactor → Season → ℕ
season_removes p x reactor s =
    removes_from200 p.way p.process x (season_fraction reactor.fraction reactor.age s) s.temperature (down (reactor.age * s.decay) 1_000_000)

-- its nitrate is covered
unfoldable pub season_covered : Plant → Concentrations → Reactor → Season → Bool
season_covered p x reactor s =
    covered (season_removes p x reactor s) reactor.removed_by_dose (denitrified reactor.nitrified s.target)

-- the figures that explain a reactor in a season
unfoldable pub season_explained : Plant → Concentrations → Reactor → Season → TermExplained
season_explained p x reactor s =
    record {
      aerobic_share = aerobic_share s.aerobic_age reactor.age;
      fraction = season_fraction reactor.fraction reactor.age s;
      denitrified = denitrified reactor.nitrified s.target;
      removed_by_bod = removed_by_bod (season_removes p x reactor s);
      removable = removable (season_removes p x reactor s) reactor.removed_by_dose;
    }
