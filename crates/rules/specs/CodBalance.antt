-- Document 02, item 12, condensed in docs/cod-way.md: sludge and oxygen from COD by the appendix of A 131E. Concentrations are in
-- mg/m3 of inflow. Each equation is rounded once, up or down as its chain asks. A difference that counts as 0 where it would be
-- negative is the whole numbers' `-`, which stops there. Assumes nothing.
use Rattle.std.specs.Prelude.{ℕ, ◌+◌, ◌-◌, ◌*◌, Bool, true, false, cond, leb}
use Rattle.rules.specs.Rounding.{down, up}

-- a quotient rounded up, or down
unfoldable pub rounded : Bool → ℕ → ℕ → ℕ
rounded true a d = up a d
rounded false a d = down a d

-- particulate COD, from X (A7: 1.45 g COD for each g of the organic part, 1 − B with B = 0.30)
unfoldable pub particulate_cod : Bool → ℕ → ℕ
particulate_cod upward solids = rounded upward (1015 * solids) 1000

-- its inert part (A4, A = 0.35)
unfoldable pub inert_particulate : Bool → ℕ → ℕ
inert_particulate upward particulate = rounded upward (35 * particulate) 100

-- the inert particulate COD of the solids
unfoldable pub inert_of_solids : Bool → ℕ → ℕ
inert_of_solids upward solids = inert_particulate upward (particulate_cod upward solids)

-- inert soluble COD, from the COD (A3: 0.05 of it)
unfoldable pub inert_soluble : Bool → ℕ → ℕ
inert_soluble upward cod = rounded upward (5 * cod) 100

-- degradable COD, from the COD and both inert parts (A5)
unfoldable pub degradable_cod : ℕ → ℕ → ℕ → ℕ
degradable_cod cod soluble particulate = cod - soluble - particulate

-- external carbon that adds biomass, from the dose: a dose of at most 10 mg/l is not taken into account
unfoldable pub dosed_cod : ℕ → ℕ
dosed_cod dose = cond (leb dose 10_000) 0 dose

-- biomass formed, from the degradable COD and U (A11: Y = 0.67, b = 0.17)
unfoldable pub biomass_formed : Bool → ℕ → ℕ → ℕ
biomass_formed upward degradable corrected = rounded upward (67000 * degradable) (100000 + 17 * corrected)

-- inert matter that decayed biomass leaves, from the biomass and U (A13: a fifth of what decays)
unfoldable pub inert_of_biomass : Bool → ℕ → ℕ → ℕ
inert_of_biomass upward biomass corrected = rounded upward (34 * biomass * corrected) 1_000_000

-- sludge as COD, from the inert particulate and the degradable COD and U (A9)
unfoldable pub sludge_as_cod : Bool → ℕ → ℕ → ℕ → ℕ
sludge_as_cod upward inert degradable corrected =
    let biomass = biomass_formed upward degradable corrected in
    inert + biomass + inert_of_biomass upward biomass corrected

-- inorganic solids, from X (A6, B = 0.30)
unfoldable pub inorganic_solids : ℕ → ℕ
inorganic_solids solids = up (3 * solids) 10

-- The sludge's chain, towards more sludge: carbon sludge, g/d, from Q, COD, X, the dose and U(T) (A14). The dose is added to the
-- degradable COD after that was held at 0.
unfoldable pub carbon_sludge_by_cod : ℕ → ℕ → ℕ → ℕ → ℕ → ℕ
carbon_sludge_by_cod flow cod solids dose corrected =
    let inert = inert_of_solids true solids in
    let degradable = degradable_cod cod (inert_soluble false cod) inert + dosed_cod dose in
    up (flow * (100 * sludge_as_cod true inert degradable corrected + 116 * inorganic_solids solids)) 116_000

-- oxygen, mg/m3, from COD, X and U, with every equation rounded up, towards less oxygen, or down, towards more (before A16)
unfoldable pub oxygen_by_cod : Bool → ℕ → ℕ → ℕ → ℕ
oxygen_by_cod upward cod solids corrected =
    let inert = inert_of_solids upward solids in
    let soluble = inert_soluble upward cod in
    cod - soluble - sludge_as_cod upward inert (degradable_cod cod soluble inert) corrected

-- The aeration's chain, towards more oxygen: oxygen for carbon, g/d, from Q, COD, X and U(Ta) (A16)
unfoldable pub carbon_oxygen_by_cod : ℕ → ℕ → ℕ → ℕ → ℕ
carbon_oxygen_by_cod flow cod solids corrected = up (flow * oxygen_by_cod false cod solids corrected) 1000

-- The cover's chain, towards less oxygen: what stands for K × C in a process that denitrifies by its oxygen uptake, from the
-- fraction, COD, X and U (5-7)
unfoldable pub removed_by_oxygen : ℕ → ℕ → ℕ → ℕ → ℕ
removed_by_oxygen fraction cod solids corrected = 1000 * down (75 * fraction * oxygen_by_cod true cod solids corrected) 290_000
