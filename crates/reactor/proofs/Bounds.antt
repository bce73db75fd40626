-- The limits of a whole reactor, from those of its figures in turn. Assumes nothing.
use mathlib.Core.Path.{◌≡◌}
use Prim.Native.Nat.{ℕ, ◌*◌, ◌≤◌}
use native.Mathlib.Omega.{arith}
use Rattle.rules.specs.Limits.{most_capacity}
use Rattle.rules.proofs.FigureBounds.{most_age, most_nitrogen, most_sludge}
use Rattle.rules.specs.Ranges.{Between, GridFraction, PlantRanges, ConcentrationRanges}
use Rattle.rules.proofs.FigureBounds.{ReactorBounds}
use Rattle.rules.specs.AgeNitrate.{safety_factor, aerobic_age, sludge_age, corrected_age, nitrified, removes}
use Rattle.rules.specs.ReactorSteps.{carbon_sludge_in, sludge_production, reactor_by, reactor_dosed, reactor_of}
use Rattle.rules.specs.declared.Plant.{Plant}
use Rattle.rules.specs.declared.Concentrations.{Concentrations}
use Rattle.rules.specs.declared.Way.{Way}
use Rattle.reactor.proofs.AgeLimits.{safety_factor_between, aerobic_age_between, aerobic_age_most, sludge_age_between, corrected_age_most}
use Rattle.reactor.proofs.NitrateLimits.{nitrified_most, denitrified_most, removes_by_bod_most, removes_in_most, removed_by_dose_most}
use Rattle.reactor.proofs.SludgeLimits.{carbon_sludge_in_most, sludge_production_most, sludge_mass_most}

pub reactor_bounds_lem :
    (p : Plant) (x : Concentrations) (f : ℕ) →
    PlantRanges p → ConcentrationRanges x → GridFraction f → ReactorBounds (reactor_of p x f)
unfolding reactor_of reactor_dosed reactor_by
reactor_bounds_lem p x f hp hx hf =
    record {
      fraction = hf;
      age = t_between;
      nitrified = w_most;
      denitrified = denitrified_most (nitrified x.nitrogen x.bod) p.nitrate_target w_most;
      removes = removes_in_most p.way p.process x f p.design_temperature u hx hf hp.design.most;
      by_dose = removed_by_dose_most p.dose hp.dose.most;
      sludge = s_most;
      mass = sludge_mass_most t (sludge_production p x (carbon_sludge_in p.way p.flow x p.dose u)) t_between.most s_most;
    }
  where
    factor : ℕ
    factor = safety_factor p.load

    t : ℕ
    t = sludge_age (aerobic_age factor p.design_temperature) f

    t_between : Between 1 most_age t
    t_between =
        sludge_age_between (aerobic_age factor p.design_temperature) f
        (record {
          least = (aerobic_age_between factor p.design_temperature (safety_factor_between p.load) (omega (arith, hp.design))).least;
          most = aerobic_age_most factor p.design_temperature (safety_factor_between p.load).most hp.design;
        })
        hf.most

    u : ℕ
    u = corrected_age t p.design_temperature

    u_most : u ≤ 42_600
    u_most = omega (arith, corrected_age_most t p.design_temperature (omega (arith, hp.design)), t_between.most)

    w_most : nitrified x.nitrogen x.bod ≤ most_nitrogen
    w_most = nitrified_most x.nitrogen x.bod hx.nitrogen.most

    carbon_most : carbon_sludge_in p.way p.flow x p.dose u ≤ 1_360_000_000
    carbon_most = carbon_sludge_in_most p.way p.flow x p.dose u hp.flow.most hx hp.dose.most u_most

    s_most : sludge_production p x (carbon_sludge_in p.way p.flow x p.dose u) ≤ most_sludge
    s_most = sludge_production_most p x (carbon_sludge_in p.way p.flow x p.dose u) hp hx carbon_most

-- by BOD the tank removes at most 193 for each part of BOD
pub removes_most :
    (p : Plant) (x : Concentrations) (f : ℕ)
    → p.way ≡ Way.Bod
    → PlantRanges p
    → GridFraction f
    → (reactor_of p x f).removes ≤ most_capacity * x.bod
unfolding reactor_of reactor_dosed reactor_by removes
removes_most p x f bod hp hf = rw bod (by_bod p.design_temperature hp.design.most _)
  where
    by_bod : (n : ℕ) → n ≤ 20 → (u : ℕ) → removes Way.Bod p.process x f n u ≤ most_capacity * x.bod
    by_bod n h u = removes_by_bod_most p.process x f n u hf h
