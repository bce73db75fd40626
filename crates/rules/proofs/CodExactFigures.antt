-- The exact figures of the COD way exist for all numbers, over a denominator that every equation's divisor divides, and there is
-- one set of them for a denominator: each equation leaves one value. Assumes nothing.
use Prim.Native.Nat.{ℕ, ◌+◌, ◌-◌, ◌*◌}
use mathlib.Core.Path.{◌≡◌, ap}
use native.Mathlib.Nat.{mul-sub, eq_of_mul-eq-mul_left}
use native.Mathlib.Omega.{arith}
use Rattle.rules.specs.CodExact.{CodExact}

-- They exist: the degradable COD is 5000 × (100000 + 17 U) × `degradable`.
pub exact_figures : (cod solids dosed corrected : ℕ) → CodExact (20_000_000 * (100000 + 17 * corrected)) cod solids dosed corrected
exact_figures cod solids dosed corrected =
    record {
      particulate = 20_300_000 * (solids * w);
      inert = 7_105_000 * (solids * w);
      soluble = 1_000_000 * (cod * w);
      biomass = 335_000_000 * degradable;
      decayed = 11_390 * (degradable * corrected);
      inorganic = 6_000_000 * (solids * w);
      denominator = omega arith;
      A7 = omega arith;
      A4 = omega arith;
      A3 = omega arith;
      A11 = omega (arith, mul-sub w (3800 * cod) (1421 * solids));
      A13 = omega arith;
      A6 = omega arith;
    }
  where
    w : ℕ
    w = 100000 + 17 * corrected

    degradable : ℕ
    degradable = 3800 * cod - 1421 * solids + 4000 * dosed

-- the same six figures
pub record SameFigures {n cod solids dosed corrected : ℕ} (x y : CodExact n cod solids dosed corrected) : Type 0 where
  pub particulate : x.particulate ≡ y.particulate
  pub inert : x.inert ≡ y.inert
  pub soluble : x.soluble ≡ y.soluble
  pub biomass : x.biomass ≡ y.biomass
  pub decayed : x.decayed ≡ y.decayed
  pub inorganic : x.inorganic ≡ y.inorganic

-- There is one set of them.
pub exact_once : {n cod solids dosed corrected : ℕ} (x y : CodExact n cod solids dosed corrected) → SameFigures x y
exact_once {corrected} x y =
    let i : x.inert ≡ y.inert = omega arith in
    let s : x.soluble ≡ y.soluble = omega arith in
    let formed : (100000 + 17 * corrected) * x.biomass ≡ (100000 + 17 * corrected) * y.biomass = omega arith in
    let b : x.biomass ≡ y.biomass = eq_of_mul-eq-mul_left (100000 + 17 * corrected) (omega arith) x.biomass y.biomass formed in
    let d : x.decayed ≡ y.decayed = omega (arith, ap (λ (v : ℕ). v * corrected) b) in
    omega arith
