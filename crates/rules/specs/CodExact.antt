-- The appendix of A 131E without a rounding, for docs/cod-way.md's ends of ranges: its figures as fractions over one common
-- denominator, each equation multiplied out. The chains of CodBalance.antt lie on their sides of these (proofs/CodSides.antt).
-- U is document 01's, in thousandths of a day. Assumes nothing.
use Rattle.std.specs.Prelude.{ℕ, ◌+◌, ◌-◌, ◌*◌, ◌≤◌, ◌<◌, ◌≡◌, true}
use Rattle.rules.specs.CodBalance.{dosed_cod, carbon_sludge_by_cod, oxygen_by_cod, carbon_oxygen_by_cod, removed_by_oxygen}

-- The figures n-fold, mg/m3: of an inflow with this COD and these solids, with this much external carbon that adds biomass, at
-- this U. A difference that counts as 0 where it would be negative is the whole numbers' `-`.
pub record CodExact (n cod solids dosed corrected : ℕ) : Type 0 where
  pub particulate : ℕ
  pub inert : ℕ
  pub soluble : ℕ
  pub biomass : ℕ
  pub decayed : ℕ
  pub inorganic : ℕ
  pub denominator : 0 < n
  -- A7, A4 and A3
  pub A7 : 1000 * particulate ≡ 1015 * solids * n
  pub A4 : 100 * inert ≡ 35 * particulate
  pub A3 : 100 * soluble ≡ 5 * cod * n
  -- A11 of the degradable COD, A5
  pub A11 : (100000 + 17 * corrected) * biomass ≡ 67000 * (cod * n - soluble - inert + dosed * n)
  -- A13 and A6
  pub A13 : 1_000_000 * decayed ≡ 34 * biomass * corrected
  pub A6 : 10 * inorganic ≡ 3 * solids * n

-- n-fold sludge as COD (A9)
abbrev pub exact_sludge : {n cod solids dosed corrected : ℕ} → CodExact n cod solids dosed corrected → ℕ
exact_sludge e = e.inert + e.biomass + e.decayed

-- n-fold oxygen (before A16)
abbrev pub exact_oxygen : {n cod solids dosed corrected : ℕ} → CodExact n cod solids dosed corrected → ℕ
exact_oxygen {n} {cod} e = cod * n - e.soluble - exact_sludge e

-- Each chain's figure lies on its side of the exact value, whatever the denominator: the carbon sludge is never below it, carbon's
-- oxygen for aeration never below, the oxygen of the cover, and what stands for K × C with it, never above.
pub record OnItsSide (flow cod solids dose corrected : ℕ) : Type 0 where
  pub sludge :
      (n : ℕ) (e : CodExact n cod solids (dosed_cod dose) corrected)
      → flow * (100 * exact_sludge e + 116 * e.inorganic) ≤ 116_000 * (carbon_sludge_by_cod flow cod solids dose corrected * n)
  pub aeration :
      (n : ℕ) (e : CodExact n cod solids 0 corrected)
      → flow * exact_oxygen e ≤ 1000 * (carbon_oxygen_by_cod flow cod solids corrected * n)
  pub cover : (n : ℕ) (e : CodExact n cod solids 0 corrected) → oxygen_by_cod true cod solids corrected * n ≤ exact_oxygen e
  pub removes :
      (n : ℕ) (e : CodExact n cod solids 0 corrected) (fraction : ℕ)
      → 290 * (removed_by_oxygen fraction cod solids corrected * n) ≤ 75 * (fraction * exact_oxygen e)
