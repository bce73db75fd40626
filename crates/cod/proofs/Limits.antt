-- Limits of the figures from COD for accepted data: each from the limit of the product that it rounds. Assumes nothing.
use Prim.Native.Nat.{ℕ, ◌+◌, ◌-◌, ◌*◌, ◌≤◌, ◌<◌}
use mathlib.Core.Bool.{Bool, true, false, cond}
use lib.Dec.{leb}
use native.Mathlib.Nat.{mul-le-mul, div-le_of_le-mul, div-mul-le_self}
use native.Mathlib.Omega.{arith}
use Rattle.rules.specs.CodBalance.{rounded, particulate_cod, inert_particulate, inert_of_solids, inert_soluble, degradable_cod, dosed_cod, biomass_formed, inert_of_biomass, sludge_as_cod, inorganic_solids, carbon_sludge_by_cod, oxygen_by_cod, removed_by_oxygen}
use Rattle.rules.specs.Limits.{most_dose}
use Rattle.rules.proofs.FigureBounds.{most_removes}
use Rattle.rules.proofs.Quotients.{up_le}

-- rounded either way, a quotient is at most a whole number that it does not exceed
pub rounded_most : (upward : Bool) (a d k : ℕ) → 0 < d → a ≤ k * d → rounded upward a d ≤ k
unfolding rounded
rounded_most true a d k pos h = (up_le a d k pos).1 h
rounded_most false a d k pos h = div-le_of_le-mul d (omega (arith, h))

-- rounded either way, a quotient times its divisor is at most the dividend and the divisor
pub rounded_product : (upward : Bool) (a d : ℕ) → 0 < d → rounded upward a d * d ≤ a + d
unfolding rounded
rounded_product true a d pos = omega (arith, div-mul-le_self (a + (d - 1)) d)
rounded_product false a d pos = omega (arith, div-mul-le_self a d)

pub particulate_most : (upward : Bool) (solids : ℕ) → solids ≤ 2_000_000 → particulate_cod upward solids ≤ 2_030_000
unfolding particulate_cod
particulate_most upward solids h = rounded_most upward (1015 * solids) 1000 2_030_000 (omega arith) (omega arith)

pub inert_most : (upward : Bool) (solids : ℕ) → solids ≤ 2_000_000 → inert_of_solids upward solids ≤ 710_500
unfolding inert_of_solids inert_particulate
inert_most upward solids h =
    rounded_most upward (35 * particulate_cod upward solids) 100 710_500 (omega arith) (omega (arith, particulate_most upward solids h))

pub soluble_most : (upward : Bool) (cod : ℕ) → cod ≤ 4_400_000 → inert_soluble upward cod ≤ 220_000
unfolding inert_soluble
soluble_most upward cod h = rounded_most upward (5 * cod) 100 220_000 (omega arith) (omega arith)

pub biomass_most : (upward : Bool) (degradable u : ℕ) → degradable ≤ 4_900_000 → biomass_formed upward degradable u ≤ 3_283_000
unfolding biomass_formed
biomass_most upward degradable u h =
    rounded_most upward (67000 * degradable) (100000 + 17 * u) 3_283_000 (omega arith) (omega arith)

-- the product that the inert matter of biomass rounds: biomass becomes less with age, and by its quotient no age makes the product
-- larger than twice the degradable COD's
pub decayed_product :
    (upward : Bool) (degradable u : ℕ)
    → degradable ≤ 4_900_000
    → u ≤ 42_600
    → 34 * biomass_formed upward degradable u * u ≤ 658_300_000_000
unfolding biomass_formed
decayed_product upward degradable u hd hu =
    let b = rounded upward (67000 * degradable) (100000 + 17 * u) in
    let quotient : b * (100000 + 17 * u) ≤ 67000 * degradable + (100000 + 17 * u) = rounded_product upward (67000 * degradable) (100000 + 17 * u) (omega arith) in
    omega (arith, quotient)

pub decayed_most :
    (upward : Bool) (degradable u : ℕ)
    → degradable ≤ 4_900_000
    → u ≤ 42_600
    → inert_of_biomass upward (biomass_formed upward degradable u) u ≤ 658_300
unfolding inert_of_biomass
decayed_most upward degradable u hd hu =
    rounded_most upward (34 * biomass_formed upward degradable u * u) 1_000_000 658_300 (omega arith) (omega (arith, decayed_product upward degradable u hd hu))

-- the same of any biomass up to the largest, at a corrected age of up to 28,400
pub biomass_inert_product : (biomass u : ℕ) → biomass ≤ 3_283_000 → u ≤ 28_400 → 34 * biomass * u ≤ 3_170_065_000_000
biomass_inert_product biomass u h k = omega (arith, mul-le-mul h k)

pub biomass_inert_most : (upward : Bool) (biomass u : ℕ) → biomass ≤ 3_283_000 → u ≤ 28_400 → inert_of_biomass upward biomass u ≤ 3_170_065
unfolding inert_of_biomass
biomass_inert_most upward biomass u h k =
    rounded_most upward (34 * biomass * u) 1_000_000 3_170_065 (omega arith) (omega (arith, biomass_inert_product biomass u h k))

pub sludge_as_cod_most :
    (upward : Bool) (inert degradable u : ℕ)
    → inert ≤ 710_500
    → degradable ≤ 4_900_000
    → u ≤ 42_600
    → sludge_as_cod upward inert degradable u ≤ 7_170_000
unfolding sludge_as_cod
sludge_as_cod_most upward inert degradable u hi hd hu =
    omega (arith, biomass_most upward degradable u hd, decayed_most upward degradable u hd hu)

pub dosed_most : (dose : ℕ) → dose ≤ most_dose → dosed_cod dose ≤ most_dose
unfolding dosed_cod
dosed_most dose h = go (leb dose 10_000)
  where
    go : (b : Bool) → cond b 0 dose ≤ most_dose
    go true = omega arith
    go false = h

-- the product that the carbon sludge rounds
pub sludge_product :
    (flow sludge inorganic : ℕ)
    → flow ≤ 200_000
    → sludge ≤ 7_170_000
    → inorganic ≤ 600_000
    → flow * (100 * sludge + 116 * inorganic) ≤ 157_320_000_000_000
sludge_product flow sludge inorganic hf hs hi =
    let sum : 100 * sludge + 116 * inorganic ≤ 786_600_000 = omega arith in
    mul-le-mul hf sum

pub carbon_sludge_most :
    (flow cod solids dose u : ℕ)
    → flow ≤ 200_000
    → cod ≤ 4_400_000
    → solids ≤ 2_000_000
    → dose ≤ most_dose
    → u ≤ 42_600
    → carbon_sludge_by_cod flow cod solids dose u ≤ 1_360_000_000
unfolding carbon_sludge_by_cod degradable_cod inorganic_solids
carbon_sludge_most flow cod solids dose u hf hc hx hd hu =
    let inert = inert_of_solids true solids in
    let degradable = degradable_cod cod (inert_soluble false cod) inert + dosed_cod dose in
    let most : degradable ≤ 4_900_000 = omega (arith, dosed_most dose hd) in
    let sludge = sludge_as_cod_most true inert degradable u (inert_most true solids hx) most hu in
    let inorganic : inorganic_solids solids ≤ 600_000 = omega arith in
    omega (arith, sludge_product flow (sludge_as_cod true inert degradable u) (inorganic_solids solids) hf sludge inorganic)

-- oxygen is at most the COD
pub oxygen_most : (upward : Bool) (cod solids u : ℕ) → oxygen_by_cod upward cod solids u ≤ cod
unfolding oxygen_by_cod
oxygen_most upward cod solids u = omega arith

-- the product that carbon's oxygen rounds, and the one that a process with that uptake removes
pub oxygen_product : (flow oxygen : ℕ) → flow ≤ 200_000 → oxygen ≤ 4_400_000 → flow * oxygen ≤ 880_000_000_000
oxygen_product flow oxygen hf ho = mul-le-mul hf ho

pub removed_product : (fraction oxygen : ℕ) → fraction ≤ 500 → oxygen ≤ 4_400_000 → 75 * fraction * oxygen ≤ 165_000_000_000
removed_product fraction oxygen hf ho = omega (arith, mul-le-mul hf ho)

pub removed_most :
    (fraction cod solids u : ℕ) → fraction ≤ 500 → cod ≤ 4_400_000 → removed_by_oxygen fraction cod solids u ≤ most_removes
unfolding removed_by_oxygen
removed_most fraction cod solids u hf hc =
    let oxygen : oxygen_by_cod true cod solids u ≤ 4_400_000 = omega (arith, oxygen_most true cod solids u) in
    omega (arith, removed_product fraction (oxygen_by_cod true cod solids u) hf oxygen)
