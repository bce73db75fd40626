-- Each chain of the COD way lies on its side of the exact figures: the rounding laws carry a bound through each equation, and what
-- rounding the inert COD takes from the degradable COD, or adds to it, changes the sludge by no more than itself. Assumes nothing.
use Prim.Native.Nat.{ℕ, ◌+◌, ◌-◌, ◌*◌, ◌≤◌, ◌<◌}
use mathlib.Core.Bool.{true, false}
use mathlib.Core.Path.{◌≡◌}
use native.Mathlib.Nat.{le_refl, mul-le-mul_left, mul-le-mul_right, mul-sub}
use native.Mathlib.Omega.{arith}
use Rattle.rules.specs.Rounding.{down, up}
use Rattle.rules.specs.CodBalance.{rounded, particulate_cod, inert_particulate, inert_of_solids, inert_soluble, degradable_cod, dosed_cod, biomass_formed, inert_of_biomass, sludge_as_cod, inorganic_solids, carbon_sludge_by_cod, oxygen_by_cod, carbon_oxygen_by_cod, removed_by_oxygen}
use Rattle.rules.specs.CodExact.{CodExact, OnItsSide, exact_sludge, exact_oxygen}
use Rattle.rules.proofs.Quotients.{le_down, up_le}

-- "up" is never below its quotient, n-fold
up_fold : (n a d : ℕ) → 0 < d → a * n ≤ d * (up a d * n)
up_fold n a d pos =
    let whole : a ≤ up a d * d = (up_le a d (up a d) pos).0 (le_refl (up a d)) in
    omega (arith, mul-le-mul_right n whole)

-- "down" is never above its quotient, n-fold
down_fold : (n a d : ℕ) → 0 < d → d * (down a d * n) ≤ a * n
down_fold n a d pos =
    let whole : down a d * d ≤ a = (le_down a d (down a d) pos).0 (le_refl (down a d)) in
    omega (arith, mul-le-mul_right n whole)

-- differences held at 0: taking off at most e more leaves at most e less
held_above : (n a b c y z e : ℕ) → b * n + c * n ≤ y + z + e → a * n - y - z ≤ (a - b - c) * n + e
held_above n a b c y z e h = omega (arith, mul-sub n (a - b) c, mul-sub n a b)

held_below : (n a b c y z e : ℕ) → y + z ≤ b * n + c * n + e → (a - b - c) * n ≤ a * n - y - z + e
held_below n a b c y z e h = omega (arith, mul-sub n (a - b) c, mul-sub n a b)

-- e more of degradable COD gives at most e more of biomass and the inert matter that it leaves
yield :
    (u a b e : ℕ)
    → (100000 + 17 * u) * a ≤ (100000 + 17 * u) * b + 67000 * e
    → 1_000_000 * a + 34 * (u * a) ≤ 1_000_000 * b + 34 * (u * b) + 1_000_000 * e
yield u a b e h =
    let l : a ≤ b + (a - b) = omega arith in
    let more : (100000 + 17 * u) * (a - b) ≤ 67000 * e = omega (arith, mul-sub (100000 + 17 * u) a b) in
    omega (arith, mul-le-mul_left u l)

module _ {n cod solids dosed u : ℕ} (x : CodExact n cod solids dosed u) where
  -- the inert particulate COD, rounded up and down
  inert_above : x.inert ≤ inert_of_solids true solids * n
  unfolding inert_of_solids inert_particulate particulate_cod rounded
  inert_above =
      let p : ℕ = up (1015 * solids) 1000 in
      let l : x.particulate ≤ p * n = omega (arith, up_fold n (1015 * solids) 1000 (omega arith)) in
      omega (arith, up_fold n (35 * p) 100 (omega arith))

  inert_below : inert_of_solids false solids * n ≤ x.inert
  unfolding inert_of_solids inert_particulate particulate_cod rounded
  inert_below =
      let p : ℕ = down (1015 * solids) 1000 in
      let l : p * n ≤ x.particulate = omega (arith, down_fold n (1015 * solids) 1000 (omega arith)) in
      omega (arith, down_fold n (35 * p) 100 (omega arith))

  -- the inert soluble COD, rounded up and down
  soluble_above : x.soluble ≤ inert_soluble true cod * n
  unfolding inert_soluble rounded
  soluble_above = omega (arith, up_fold n (5 * cod) 100 (omega arith))

  soluble_below : inert_soluble false cod * n ≤ x.soluble
  unfolding inert_soluble rounded
  soluble_below = omega (arith, down_fold n (5 * cod) 100 (omega arith))

  -- the sludge as COD, rounded up, of a degradable COD that is at most e too small
  sludge_above :
      (inert degradable e : ℕ)
      → cod * n - x.soluble - x.inert + dosed * n ≤ degradable * n + e
      → inert * n + x.biomass + x.decayed ≤ sludge_as_cod true inert degradable u * n + e
  unfolding sludge_as_cod biomass_formed inert_of_biomass rounded
  sludge_above inert degradable e h =
      let b : ℕ = up (67000 * degradable) (100000 + 17 * u) in
      let l = up_fold n (67000 * degradable) (100000 + 17 * u) (omega arith) in
      let y = yield u x.biomass (b * n) e (omega arith) in
      omega (arith, up_fold n (34 * b * u) 1_000_000 (omega arith))

  -- the sludge as COD, rounded down, of a degradable COD that is at most e too large
  sludge_below :
      (inert degradable e : ℕ)
      → degradable * n ≤ cod * n - x.soluble - x.inert + dosed * n + e
      → sludge_as_cod false inert degradable u * n ≤ inert * n + x.biomass + x.decayed + e
  unfolding sludge_as_cod biomass_formed inert_of_biomass rounded
  sludge_below inert degradable e h =
      let b : ℕ = down (67000 * degradable) (100000 + 17 * u) in
      let l = down_fold n (67000 * degradable) (100000 + 17 * u) (omega arith) in
      let y = yield u (b * n) x.biomass e (omega arith) in
      omega (arith, down_fold n (34 * b * u) 1_000_000 (omega arith))

-- the sludge as COD of the sludge's chain is never below the exact one
chain_sludge :
    {n cod solids dosed u : ℕ} (x : CodExact n cod solids dosed u)
    → let inert = inert_of_solids true solids in
    exact_sludge x ≤ sludge_as_cod true inert (degradable_cod cod (inert_soluble false cod) inert + dosed) u * n
unfolding degradable_cod
chain_sludge {n} {cod} {solids} {dosed} {u} x =
    let i : ℕ = inert_of_solids true solids in
    let s : ℕ = inert_soluble false cod in
    let e : ℕ = i * n - x.inert in
    let more : i * n ≤ x.inert + e = omega (arith, inert_above x) in
    let lost = held_above n cod s i x.soluble x.inert e (omega (arith, soluble_below x)) in
    omega (arith, inert_above x, sludge_above x i (cod - s - i + dosed) e (omega arith))

-- the oxygen with every equation rounded down is never below the exact one
more_oxygen : {n cod solids u : ℕ} (x : CodExact n cod solids 0 u) → exact_oxygen x ≤ oxygen_by_cod false cod solids u * n
unfolding oxygen_by_cod degradable_cod
more_oxygen {n} {cod} {solids} {u} x =
    let i : ℕ = inert_of_solids false solids in
    let s : ℕ = inert_soluble false cod in
    let e : ℕ = x.soluble + x.inert - (s * n + i * n) in
    let whole : e + s * n + i * n ≡ x.soluble + x.inert = omega (arith, inert_below x, soluble_below x) in
    let gained = held_below n cod s i x.soluble x.inert e (omega arith) in
    let less = sludge_below x i (cod - s - i) e (omega arith) in
    omega (arith, held_above n cod s (sludge_as_cod false i (cod - s - i) u) x.soluble (exact_sludge x) 0 (omega arith))

-- the oxygen with every equation rounded up is never above it
less_oxygen : {n cod solids u : ℕ} (x : CodExact n cod solids 0 u) → oxygen_by_cod true cod solids u * n ≤ exact_oxygen x
unfolding oxygen_by_cod degradable_cod
less_oxygen {n} {cod} {solids} {u} x =
    let i : ℕ = inert_of_solids true solids in
    let s : ℕ = inert_soluble true cod in
    let e : ℕ = s * n + i * n - (x.soluble + x.inert) in
    let whole : e + x.soluble + x.inert ≡ s * n + i * n = omega (arith, inert_above x, soluble_above x) in
    let lost = held_above n cod s i x.soluble x.inert e (omega arith) in
    let more = sludge_above x i (cod - s - i) e (omega arith) in
    omega (arith, held_below n cod s (sludge_as_cod true i (cod - s - i) u) x.soluble (exact_sludge x) 0 (omega arith))

-- Each chain's figure lies on its side of the exact value.
pub on_its_side : (flow cod solids dose corrected : ℕ) → OnItsSide flow cod solids dose corrected
unfolding carbon_sludge_by_cod inorganic_solids carbon_oxygen_by_cod removed_by_oxygen
on_its_side flow cod solids dose corrected =
    record {
      sludge = λ n x.
          let inert : ℕ = inert_of_solids true solids in
          let degradable : ℕ = degradable_cod cod (inert_soluble false cod) inert + dosed_cod dose in
          let each : ℕ = 100 * sludge_as_cod true inert degradable corrected + 116 * inorganic_solids solids in
          let inorganic : x.inorganic ≤ inorganic_solids solids * n = omega (arith, up_fold n (3 * solids) 10 (omega arith)) in
          let l : 100 * exact_sludge x + 116 * x.inorganic ≤ each * n = omega (arith, chain_sludge x) in
          omega (arith, mul-le-mul_left flow l, up_fold n (flow * each) 116_000 (omega arith));
      aeration = λ n x.
          omega (arith, mul-le-mul_left flow (more_oxygen x), up_fold n (flow * oxygen_by_cod false cod solids corrected) 1000 (omega arith));
      cover = λ n x. less_oxygen x;
      removes = λ n x fraction.
          omega (arith, mul-le-mul_left fraction (less_oxygen x), down_fold n (75 * fraction * oxygen_by_cod true cod solids corrected) 290_000 (omega arith));
    }
