-- `Basis::reactor` meets its contract: with the inflow's figures and the design's a and F from what was reckoned once, the figures are
-- the definition's chain. Assumes nothing.
use mathlib.Core.Path.{◌≡◌, refl}
use native.Mathlib.Omega.{arith}
use Rattle.rules.specs.AgeNitrate.{corrected_age, removes}
use Rattle.rules.specs.ReactorSteps.{sludge_production, reactor_by, reactor_dosed, reactor_of}
use Rattle.reactor.specs.Seasons.{inflow_of}
use Rattle.reactor.specs.declared.basis.Basis.{Basis}
use Rattle.reactor.proofs.EverySeason.{DesignIn, design_in}
use Rattle.reactor.proofs.basis.Basis.reactor.Goals as goal

design : (b : Basis) → DesignIn b.data.plant b.data.concentrations b.seasons
design b = design_in b.data.plant b.data.concentrations b.data.plant_ranges b.seasons b.data.concentration_ranges b.seasons_at.value

pub sludge_age_at_fraction-age-requires : goal.sludge_age_at_fraction-age-requires
sludge_age_at_fraction-age-requires c = ((design c.args.self.now).age_most, omega (arith, c.get.ensures.1.most))

pub returns : goal.returns
unfolding reactor_of reactor_dosed reactor_by sludge_production corrected_age inflow_of
returns c =
    let known = c.args.self.now.data in
    let own = design c.args.self.now in
    let removes_at :
    c.removes.result
    ≡ removes known.plant.way known.plant.process known.concentrations c.args.fraction c.args.self.now.seasons.design.temperature c.corrected_by-corrected.result =
    c.removes.ensures in
    rw (
      c.sludge_mass.ensures,
      c.new-sludge.ensures,
      c.get-3.ensures.0,
      c.get-4.ensures.0,
      c.carbon_sludge_in-carbon.ensures,
      removes_at,
      c.corrected_by-corrected.ensures.value,
      c.get-2.ensures.0,
      c.sludge_age_at_fraction-age.ensures,
      c.get.ensures.0,
      own.age,
      own.decay,
      own.temperature,
      own.inflow,
    ) refl
