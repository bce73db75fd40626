-- Limits of the sludge and its mass, each from the limit of the product that it rounds. Assumes nothing.
use Prim.Native.Nat.{ℕ, ◌+◌, ◌-◌, ◌*◌, ◌≤◌}
use native.Mathlib.Nat.{mul-le-mul, sub-le}
use native.Mathlib.Omega.{arith}
use Rattle.rules.specs.ReactorSteps.{biomass_decay, carbon_sludge, carbon_sludge_in, sludge_per_phosphorus, phosphorus_sludge, sludge_production, sludge_mass}
use Rattle.rules.specs.Limits.{most_dose}
use Rattle.rules.proofs.FigureBounds.{most_sludge, most_mass}
use Rattle.rules.specs.Ranges.{PlantRanges, ConcentrationRanges}
use Rattle.rules.specs.declared.Plant.{Plant}
use Rattle.rules.specs.declared.Concentrations.{Concentrations}
use Rattle.rules.specs.declared.Precipitant.{Precipitant}
use Rattle.rules.specs.declared.Way.{Way}
use Rattle.rules.specs.Rounding.{down}
use Rattle.cod.proofs.Limits as cod_limits
use Rattle.reactor.proofs.Limits.{levels_off}

pub biomass_decay_most : (u : ℕ) → biomass_decay u ≤ 600
unfolding biomass_decay
biomass_decay_most u = levels_off 10200 600 u (omega arith)

-- the sum in the carbon sludge, for each m3/d, and the product that is rounded
pub carbon_sum : (e bod solids : ℕ) → bod ≤ 2_000_000 → solids ≤ 2_000_000 → (750 - e) * bod + 600 * solids ≤ 2_700_000_000
carbon_sum e bod solids hb hs = omega (arith, mul-le-mul (sub-le 750 e) hb)

pub carbon_product :
    (flow e bod solids : ℕ) → flow ≤ 200_000 → bod ≤ 2_000_000 → solids ≤ 2_000_000 →
    flow * ((750 - e) * bod + 600 * solids) ≤ 540_000_000_000_000
carbon_product flow e bod solids hf hb hs = mul-le-mul hf (carbon_sum e bod solids hb hs)

pub carbon_sludge_most :
    (flow bod solids u : ℕ) → flow ≤ 200_000 → bod ≤ 2_000_000 → solids ≤ 2_000_000 →
    carbon_sludge flow bod solids u ≤ 540_000_000
unfolding carbon_sludge
carbon_sludge_most flow bod solids u hf hb hs = omega (arith, carbon_product flow (biomass_decay u) bod solids hf hb hs)

pub sludge_per_phosphorus_most : (precipitant : Precipitant) → sludge_per_phosphorus precipitant ≤ 68
unfolding sludge_per_phosphorus
sludge_per_phosphorus_most Precipitant.Iron = omega arith
sludge_per_phosphorus_most Precipitant.Aluminium = omega arith

-- the product that the phosphorus sludge rounds
pub phosphorus_product : (flow k x : ℕ) → flow ≤ 200_000 → k ≤ 68 → x ≤ 100_000 → flow * k * x ≤ 1_360_000_000_000
phosphorus_product flow k x hf hk hx = mul-le-mul (mul-le-mul hf hk) hx

pub phosphorus_sludge_most :
    (flow k phosphorus target bod : ℕ) → flow ≤ 200_000 → k ≤ 68 → phosphorus ≤ 100_000 →
    phosphorus_sludge flow k phosphorus target bod ≤ 136_000_000
unfolding phosphorus_sludge
phosphorus_sludge_most flow k phosphorus target bod hf hk hp =
    omega (arith, phosphorus_product flow k (phosphorus - target - down bod 100) hf hk (omega arith))

pub carbon_sludge_in_most :
    (way : Way) (flow : ℕ) (x : Concentrations) (dose u : ℕ)
    → flow ≤ 200_000
    → ConcentrationRanges x
    → dose ≤ most_dose
    → u ≤ 42_600
    → carbon_sludge_in way flow x dose u ≤ 1_360_000_000
unfolding carbon_sludge_in
carbon_sludge_in_most Way.Bod flow x dose u hf hx hd hu =
    omega (arith, carbon_sludge_most flow x.bod x.solids u hf hx.bod.most hx.solids.most)
carbon_sludge_in_most Way.Cod flow x dose u hf hx hd hu =
    cod_limits.carbon_sludge_most flow x.cod x.solids dose u hf hx.cod.most hx.solids.most hd hu

pub sludge_production_most :
    (p : Plant) (x : Concentrations) (carbon : ℕ)
    → PlantRanges p
    → ConcentrationRanges x
    → carbon ≤ 1_360_000_000
    → sludge_production p x carbon ≤ most_sludge
unfolding sludge_production
sludge_production_most p x carbon hp hx hc =
    let k = sludge_per_phosphorus_most p.precipitant in
    omega (
      arith,
      phosphorus_sludge_most p.flow (sludge_per_phosphorus p.precipitant) x.phosphorus p.phosphorus_target x.bod
          hp.flow.most
          k
          hx.phosphorus.most,
    )

-- the product that the mass rounds
pub mass_product : (age sludge : ℕ) → age ≤ 20_000 → sludge ≤ most_sludge → age * sludge ≤ 30_000_000_000_000
mass_product age sludge ha hs = mul-le-mul ha hs

pub sludge_mass_most : (age sludge : ℕ) → age ≤ 20_000 → sludge ≤ most_sludge → sludge_mass age sludge ≤ most_mass
unfolding sludge_mass
sludge_mass_most age sludge ha hs = omega (arith, mass_product age sludge ha hs)
