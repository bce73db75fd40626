-- Document 01, "Sludge and tanks", the reactor: sludge, mass and volume, with the sludge from COD of document 02, item 12. What depends
-- on the fraction alone. Assumes nothing.
use Rattle.std.specs.Prelude.{ℕ, ◌+◌, ◌-◌, ◌*◌}
use Rattle.rules.specs.Rounding.{down, up}
use Rattle.rules.specs.AgeNitrate.{safety_factor, aerobic_age, sludge_age, corrected_age, nitrified, denitrified, removes, removed_by_dose}
use Rattle.rules.specs.CodBalance.{carbon_sludge_by_cod}
use Rattle.rules.specs.declared.Plant.{Plant}
use Rattle.rules.specs.declared.Concentrations.{Concentrations}
use Rattle.rules.specs.declared.Process.{Process}
use Rattle.rules.specs.declared.Way.{Way}
use Rattle.rules.specs.declared.Steps.{Steps}
use Rattle.rules.specs.declared.Precipitant.{Precipitant}
use Rattle.rules.specs.declared.Reactor.{Reactor}

-- e, decay of biomass per kg BOD, from U(T) (5-12)
unfoldable pub biomass_decay : ℕ → ℕ
biomass_decay corrected = down (10200 * corrected) (100000 + 17 * corrected)

-- carbon sludge, g/d, from Q, C, X and U(T) (5-12)
unfoldable pub carbon_sludge : ℕ → ℕ → ℕ → ℕ → ℕ
carbon_sludge flow bod solids corrected = up (flow * ((750 - biomass_decay corrected) * bod + 600 * solids)) 1_000_000

-- carbon sludge in a way, from Q, the dose and U(T): by BOD the dose adds none (document 02, item 2)
unfoldable pub carbon_sludge_in : Way → ℕ → Concentrations → ℕ → ℕ → ℕ
carbon_sludge_in Way.Bod flow x dose corrected = carbon_sludge flow x.bod x.solids corrected
carbon_sludge_in Way.Cod flow x dose corrected = carbon_sludge_by_cod flow x.cod x.solids dose corrected

-- k, sludge per phosphorus, tenths (5-14)
unfoldable pub sludge_per_phosphorus : Precipitant → ℕ
sludge_per_phosphorus Precipitant.Iron = 68
sludge_per_phosphorus Precipitant.Aluminium = 53

-- phosphorus sludge, g/d, from Q, k, P, P3 and C (5-9, 5-14)
unfoldable pub phosphorus_sludge : ℕ → ℕ → ℕ → ℕ → ℕ → ℕ
phosphorus_sludge flow k phosphorus target bod = up (flow * k * (phosphorus - target - down bod 100)) 10_000

-- S, sludge, g/d, from the carbon sludge: that and phosphorus sludge (5-10)
unfoldable pub sludge_production : Plant → Concentrations → ℕ → ℕ
sludge_production p x carbon =
    carbon
    + phosphorus_sludge p.flow (sludge_per_phosphorus p.precipitant) x.phosphorus p.phosphorus_target x.bod

-- M, mass of sludge, kg, from t and S (5-15)
unfoldable pub sludge_mass : ℕ → ℕ → ℕ
sludge_mass age sludge = up (age * sludge) 1_000_000

-- what depends on the fraction alone: f, t, W, D, K × C or what stands for it, what the dose removes, S and M; from that and the
-- carbon sludge, each from U(T), and from the dose
unfoldable pub reactor_by : (ℕ → ℕ) → (ℕ → ℕ) → ℕ → Plant → Concentrations → ℕ → Reactor
reactor_by own carbon dose p x fraction =
    let t = sludge_age (aerobic_age (safety_factor p.load) p.design_temperature) fraction in
    let u = corrected_age t p.design_temperature in
    let w = nitrified x.nitrogen x.bod in
    let s = sludge_production p x (carbon u) in
    record {
      fraction = fraction;
      age = t;
      nitrified = w;
      denitrified = denitrified w p.nitrate_target;
      removes = own u;
      removed_by_dose = removed_by_dose dose;
      sludge = s;
      mass = sludge_mass t s;
    }

-- the same in the plant's way, with any dose
unfoldable pub reactor_dosed : ℕ → Plant → Concentrations → ℕ → Reactor
reactor_dosed dose p x fraction =
    reactor_by (removes p.way p.process x fraction p.design_temperature) (carbon_sludge_in p.way p.flow x dose) dose p x fraction

-- the same with the plant's dose
unfoldable pub reactor_of : Plant → Concentrations → ℕ → Reactor
reactor_of p x fraction = reactor_dosed p.dose p x fraction

-- E', the solids that the reactor is sized with, from E
unfoldable pub reactor_solids : Process → ℕ → ℕ
reactor_solids Process.PreAnoxic solids = solids
reactor_solids Process.Simultaneous solids = solids
reactor_solids Process.Intermittent solids = solids
reactor_solids (Process.StepFeed Steps.Two) solids = down (114 * solids) 100
reactor_solids (Process.StepFeed Steps.Three) solids = down (120 * solids) 100

-- reactor volume, m3, from M and E' (5-16)
unfoldable pub reactor_volume : ℕ → ℕ → ℕ
reactor_volume mass solids = up (1000 * mass) solids
