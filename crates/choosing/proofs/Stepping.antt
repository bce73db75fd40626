-- One candidate more, one fraction more: what each turn of a sweep adds to the candidates that it has been through. Assumes nothing.
use mathlib.Core.Path.{◌≡◌, refl, sym, ap, subst}
use mathlib.Core.Logic.{◌⊎◌, ◌↔◌, inl, inr}
use mathlib.Core.Bool.{Bool, true, false}
use Prim.Native.Nat.{ℕ, zero, suc, ◌-◌, ◌+◌, ◌*◌, ◌/◌, ◌%◌, ◌≤◌, ◌<◌}
use native.Mathlib.Nat.{div-zero}
use native.Mathlib.Omega.{arith}
use lib.Dec.{T, ltb}
use borrow.Author.Tests.{ltb-true, ltb-false}
use Rattle.std.specs.Prelude.{Ok, Err, Option, Some, None}
use Rattle.rules.specs.Rules.{verdict}
use Rattle.rules.specs.Limits.{least_fraction, least_ratio, least_time}
use Rattle.rules.specs.AgeNitrate.{largest_return_ratio, on_grid}
use Rattle.rules.specs.ReactorSteps.{reactor_of, reactor_solids, reactor_volume}
use Rattle.rules.specs.SettlingSteps.{settling_of}
use Rattle.rules.specs.Ranges.{GridFraction}
use Rattle.rules.specs.Examining.{fraction_rules, tank_rules, permitted, total_of}
use Rattle.rules.specs.Choosing.{candidate_total, NotBefore}
use Rattle.rules.specs.Sweep.{times, per_fraction}
use Rattle.rules.specs.declared.accepted.Accepted.{Accepted}
use Rattle.rules.specs.declared.Plant.{Plant}
use Rattle.rules.specs.declared.TankFlow.{TankFlow}
use Rattle.rules.specs.declared.Concentrations.{Concentrations}
use Rattle.rules.specs.declared.Candidate.{Candidate}
use Rattle.rules.specs.Results.{Verdict}
use Rattle.rules.proofs.Quotients.{up_mono}
use Rattle.rules.proofs.RangeFacts.{GridRanges, grid_ranges}
use Rattle.rules.proofs.RuleLists.{all_kept_verdict}
use Rattle.rules.proofs.Examined.{FractionKept, TankKept, permitted_keeps}
use Rattle.choosing.specs.declared.keys.Key.{Key}
use Rattle.choosing.specs.declared.tanks.Tank.{Tank}
use Rattle.choosing.specs.Keys.{key_candidate, LesserOf, FirstOf}
use Rattle.choosing.specs.Runs.{mass_by, kept_mass, Covered, tank_index, Run, Fractions, LeastOfRun, LeastOfFractions, Lightest}
use Rattle.choosing.specs.Tanks.{tank_by, tank_of, TankAt}
use Rattle.choosing.proofs.Joining.{not_before_self, joined, Beaten, grown}

-- a candidate by its fraction and the place of its tank
abbrev pub candidate : ℕ → ℕ → Candidate
candidate f i = record { fraction = f; return_ratio = least_ratio + i / times; thickening = least_time + i % times }

-- a fraction has a mass exactly when it keeps its rules
pub mass_kept : (p : Plant) (x : Concentrations) (f m : ℕ) → kept_mass p x f ≡ Some m → FractionKept p x f × ((reactor_of p x f).mass ≡ m)
unfolding kept_mass
mass_kept p x f m e = go (verdict (fraction_rules p x (reactor_of p x f))) refl e
  where
    go : (v : Verdict) → verdict (fraction_rules p x (reactor_of p x f)) ≡ v → mass_by v (reactor_of p x f).mass ≡ Some m → FractionKept p x f × ((reactor_of p x f).mass ≡ m)
    go (Ok u) q e = ((all_kept_verdict (fraction_rules p x (reactor_of p x f))).1 q, cc)
    go (Err n) q e = absurd (let z : ◌≡◌ {A = ℕ} 0 1 = cc in omega arith)

pub kept_mass_lem : (p : Plant) (x : Concentrations) (f : ℕ) → FractionKept p x f → kept_mass p x f ≡ Some (reactor_of p x f).mass
unfolding kept_mass
kept_mass_lem p x f t = ap (λ (v : Verdict). mass_by v (reactor_of p x f).mass) ((all_kept_verdict (fraction_rules p x (reactor_of p x f))).0 t)

-- a tank is in the table exactly when it keeps its rules
abbrev entry : Plant → ℕ → ℕ → Tank
entry p r h = record { solids = reactor_solids p.process (settling_of p r h).solids; volume = (settling_of p r h).volume }

tank_kept : (p : Plant) (r h : ℕ) (t : Tank) → tank_of p r h ≡ Some t → TankKept p r h × (entry p r h ≡ t)
unfolding tank_of
tank_kept p r h t e = go (verdict (tank_rules p (settling_of p r h))) refl e
  where
    go : (v : Verdict) → verdict (tank_rules p (settling_of p r h)) ≡ v → tank_by v (entry p r h) ≡ Some t → TankKept p r h × (entry p r h ≡ t)
    go (Ok u) q e = ((all_kept_verdict (tank_rules p (settling_of p r h))).1 q, cc)
    go (Err n) q e = absurd (let z : ◌≡◌ {A = ℕ} 0 1 = cc in omega arith)

kept_tank : (p : Plant) (r h : ℕ) → TankKept p r h → tank_of p r h ≡ Some (entry p r h)
unfolding tank_of
kept_tank p r h k = ap (λ (v : Verdict). tank_by v (entry p r h)) ((all_kept_verdict (tank_rules p (settling_of p r h))).0 k)

-- ---- one candidate

-- a place below those of a fraction is that of a candidate of the grid, and of no other
place_grid : (flow : TankFlow) (f i : ℕ) → GridFraction f → i < per_fraction flow → GridRanges flow (candidate f i)
unfolding largest_return_ratio
place_grid TankFlow.Horizontal f i b h = record { fraction = b; ratio = omega arith; time = omega arith }
place_grid TankFlow.Vertical f i b h = record { fraction = b; ratio = omega arith; time = omega arith }

only_candidate : (p : Plant) (f i : ℕ) (y : Candidate) → Run p f i (i + 1) y → y ≡ candidate f i
only_candidate p f i y v =
    let g = (grid_ranges p.tank y).0 v.on_grid in
    let ratio : y.return_ratio ≡ least_ratio + i / times = omega (arith, g.ratio, g.time, v.since, v.before) in
    let time : y.thickening ≡ least_time + i % times = omega (arith, g.ratio, g.time, v.since, v.before) in
    λ j. record { fraction = v.own j; return_ratio = ratio j; thickening = time j }

module _ (d : Accepted) (f m i : ℕ) (c : Covered d f m) (below : i < per_fraction d.plant.tank) where
  grid : T (on_grid d.plant.tank (candidate f i))
  grid = (grid_ranges d.plant.tank (candidate f i)).1 (place_grid d.plant.tank f i c.fraction below)

  -- its tank breaks a rule
  pub no_key : TankAt d.plant i None → LeastOfRun d f i (i + 1) None
  no_key e = λ y v t. broken (subst (λ (z : Candidate). T (permitted d.plant d.concentrations z)) (only_candidate d.plant f i y v) t)
    where
      broken : T (permitted d.plant d.concentrations (candidate f i)) → ⊥
      broken t =
          let read = e.0 in
          let k = kept_tank d.plant (least_ratio + i / times) (least_time + i % times) ((permitted_keeps d.plant d.concentrations (candidate f i)).0 t).tank in
          let z : ◌≡◌ {A = ℕ} 0 1 = cc in
          omega arith

  -- or keeps them
  pub one_key :
      (t : Tank) (total : ℕ) → TankAt d.plant i (Some t)
      → total ≡ reactor_volume m t.solids + t.volume
      → LeastOfRun d f i (i + 1) (Some (record { total = total; fraction = f; return_ratio = least_ratio + i / times; thickening = least_time + i % times }))
  unfolding candidate_total total_of
  one_key t total e h =
      let mk = mass_kept d.plant d.concentrations f m c.value in
      let tk = tank_kept d.plant (least_ratio + i / times) (least_time + i % times) t (sym e.0) in
      let own : T (permitted d.plant d.concentrations (candidate f i)) =
      (permitted_keeps d.plant d.concentrations (candidate f i)).1 (record { grid = grid; fraction = mk.0; tank = tk.0 }) in (
        rw (← mk.1, ← tk.1) at h,
        (
          record { on_grid = grid; own = refl; since = omega arith; before = omega arith },
          own,
          λ y v t.
              subst (NotBefore d.plant d.concentrations (candidate f i)) (sym (only_candidate d.plant f i y v))
              (not_before_self (candidate_total d.plant d.concentrations) (candidate f i)),
        ),
      )

-- ---- one run after another

next : (a b c n : ℕ) → a ≤ b → b ≤ c → ((a ≤ n) × (n < c)) ↔ (((a ≤ n) × (n < b)) ⊎ ((b ≤ n) × (n < c)))
next a b c n l m = (λ h. go (ltb n b) refl h, back)
  where
    go : (q : Bool) → ltb n b ≡ q → (a ≤ n) × (n < c) → ((a ≤ n) × (n < b)) ⊎ ((b ≤ n) × (n < c))
    go true e h = inl (h.0, ltb-true n b e)
    go false e h = inr (ltb-false n b e, h.1)

    back : ((a ≤ n) × (n < b)) ⊎ ((b ≤ n) × (n < c)) → (a ≤ n) × (n < c)
    back (inl h) = (h.0, omega arith)
    back (inr h) = (omega arith, h.1)

pub run_after : (p : Plant) (f a b c : ℕ) → a ≤ b → b ≤ c → (y : Candidate) → Run p f a c y ↔ (Run p f a b y ⊎ Run p f b c y)
run_after p f a b c l m y = (λ v. go v ((next a b c (tank_index y.return_ratio y.thickening) l m).0 (v.since, v.before)), back)
  where
    n : ℕ
    n = tank_index y.return_ratio y.thickening

    go : Run p f a c y → (((a ≤ n) × (n < b)) ⊎ ((b ≤ n) × (n < c))) → Run p f a b y ⊎ Run p f b c y
    go v (inl h) = inl (record { on_grid = v.on_grid; own = v.own; since = h.0; before = h.1 })
    go v (inr h) = inr (record { on_grid = v.on_grid; own = v.own; since = h.0; before = h.1 })

    back : Run p f a b y ⊎ Run p f b c y → Run p f a c y
    back (inl v) = record { on_grid = v.on_grid; own = v.own; since = v.since; before = omega (arith, v.before) }
    back (inr v) = record { on_grid = v.on_grid; own = v.own; since = omega (arith, v.since); before = v.before }

-- ---- one fraction after another

-- the fractions after others; one fraction is its run of tanks
pub fractions_after : (p : Plant) (a b c : ℕ) → a ≤ b → b ≤ c → (y : Candidate) → Fractions p a c y ↔ (Fractions p a b y ⊎ Fractions p b c y)
fractions_after p a b c l m y = (λ v. go v ((next a b c y.fraction l m).0 (v.since, v.before)), back)
  where
    go : Fractions p a c y → (((a ≤ y.fraction) × (y.fraction < b)) ⊎ ((b ≤ y.fraction) × (y.fraction < c))) → Fractions p a b y ⊎ Fractions p b c y
    go v (inl h) = inl (record { on_grid = v.on_grid; since = h.0; before = h.1 })
    go v (inr h) = inr (record { on_grid = v.on_grid; since = h.0; before = h.1 })

    back : Fractions p a b y ⊎ Fractions p b c y → Fractions p a c y
    back (inl v) = record { on_grid = v.on_grid; since = v.since; before = omega (arith, v.before) }
    back (inr v) = record { on_grid = v.on_grid; since = omega (arith, v.since); before = v.before }

pub tanks_below : (flow : TankFlow) (y : Candidate) → GridRanges flow y → tank_index y.return_ratio y.thickening < per_fraction flow
unfolding largest_return_ratio
tanks_below TankFlow.Horizontal y g = omega (arith, g.ratio, g.time)
tanks_below TankFlow.Vertical y g = omega (arith, g.ratio, g.time)

pub fraction_run : (p : Plant) (f : ℕ) (y : Candidate) → Fractions p f (f + 1) y ↔ Run p f 0 (per_fraction p.tank) y
fraction_run p f y = (
  λ v. record { on_grid = v.on_grid; own = omega (arith, v.since, v.before); since = omega arith; before = tanks_below p.tank y ((grid_ranges p.tank y).0 v.on_grid) },
  λ v. record { on_grid = v.on_grid; since = omega (arith, v.own); before = omega (arith, v.own) },
)

module _ (d : Accepted) where
  -- of the keys of two tanks of a fraction the one at the earlier place is the lesser where the totals are the same
  first_lesser : (f from i : ℕ) (a b c : Option Key) → LeastOfRun d f from i a → LeastOfRun d f i (i + 1) b → FirstOf a b c → LesserOf a b c
  first_lesser f from i None b c l m e = e
  first_lesser f from i (Some k) None c l m e = e
  first_lesser f from i (Some k) (Some n) c l m (inl e) =
      let g = (grid_ranges d.plant.tank (key_candidate k)).0 l.1.0.on_grid in
      let h = (grid_ranges d.plant.tank (key_candidate n)).0 m.1.0.on_grid in
      inl (
        e.0,
        record {
          total = e.1;
          fraction = λ t. omega (arith, l.1.0.own, m.1.0.own);
          ratio = λ t q. omega (arith, l.1.0.before, m.1.0.since, g.ratio, g.time, h.ratio, h.time);
          time = λ t q r. omega (arith, l.1.0.before, m.1.0.since, g.ratio, g.time, h.ratio, h.time);
        },
      )
  first_lesser f from i (Some k) (Some n) c l m (inr e) =
      inr (e.0, record { total = omega (arith, e.1); fraction = λ t. absurd (omega (arith, e.1)); ratio = λ t q. absurd (omega (arith, e.1)); time = λ t q r. absurd (omega (arith, e.1)) })

  -- one candidate more
  pub run_joined :
      (f from i : ℕ) (a b c : Option Key) → from ≤ i → LeastOfRun d f from i a → LeastOfRun d f i (i + 1) b → FirstOf a b c → LeastOfRun d f from (i + 1) c
  run_joined f from i a b c h l m e =
      joined d.plant d.concentrations (Run d.plant f from i) (Run d.plant f i (i + 1)) (Run d.plant f from (i + 1)) a b c
      (run_after d.plant f from i (i + 1) h (omega arith))
      l m (first_lesser f from i a b c l m e)

  -- a fraction that is not covered has no key
  pub uncovered : (f from to : ℕ) → None ≡ kept_mass d.plant d.concentrations f → LeastOfRun d f from to None
  uncovered f from to e = λ y v t. broken (subst (FractionKept d.plant d.concentrations) v.own ((permitted_keeps d.plant d.concentrations y).0 t).fraction)
    where
      broken : FractionKept d.plant d.concentrations f → ⊥
      broken k = let h = kept_mass_lem d.plant d.concentrations f k in let z : ◌≡◌ {A = ℕ} 0 1 = cc in omega arith

  -- one more fraction, by the least key of its tanks
  pub fraction_joined :
      (first f : ℕ) (a b c : Option Key) → first ≤ f
      → LeastOfFractions d first f a
      → LeastOfRun d f 0 (per_fraction d.plant.tank) b
      → LesserOf a b c
      → LeastOfFractions d first (f + 1) c
  fraction_joined first f a b c h =
      joined d.plant d.concentrations (Fractions d.plant first f) (Run d.plant f 0 (per_fraction d.plant.tank)) (Fractions d.plant first (f + 1)) a b c
      (λ y. (λ v. to y ((fractions_after d.plant first f (f + 1) h (omega arith) y).0 v), from y))
    where
      to : (y : Candidate) → Fractions d.plant first f y ⊎ Fractions d.plant f (f + 1) y → Fractions d.plant first f y ⊎ Run d.plant f 0 (per_fraction d.plant.tank) y
      to y (inl v) = inl v
      to y (inr v) = inr ((fraction_run d.plant f y).0 v)

      from : (y : Candidate) → Fractions d.plant first f y ⊎ Run d.plant f 0 (per_fraction d.plant.tank) y → Fractions d.plant first (f + 1) y
      from y (inl v) = (fractions_after d.plant first f (f + 1) h (omega arith) y).1 (inl v)
      from y (inr v) = (fractions_after d.plant first f (f + 1) h (omega arith) y).1 (inr ((fraction_run d.plant f y).1 v))

-- what a sweep passes over, by the least mass before: a fraction that is not covered, or that is no lighter
abbrev pub Passed : Option ℕ → Option ℕ → Type 0
Passed light None = Unit {0}
Passed None (Some m) = ⊥
Passed (Some l) (Some m) = l ≤ m

-- a lighter sludge needs no larger reactor
lighter : (m n s : ℕ) → m ≤ n → reactor_volume m s ≤ reactor_volume n s
unfolding reactor_volume
lighter m n zero h = rw (div-zero (1000 * m + (0 - 1)), div-zero (1000 * n + (0 - 1))) (omega arith)
lighter m n (suc s) h = up_mono (1000 * m) (1000 * n) (suc s) (omega arith) (omega arith)

module _ (d : Accepted) (first f : ℕ) (least : least_fraction ≤ first) where
  -- a permitted candidate of a fraction that is no lighter than a covered one before it comes after the same tank there
  replaced :
      (l m : ℕ) → Lightest d first f (Some l) → kept_mass d.plant d.concentrations f ≡ Some m → l ≤ m
      → (y : Candidate) → T (on_grid d.plant.tank y) → y.fraction ≡ f → T (permitted d.plant d.concentrations y)
      → Beaten d.plant d.concentrations (Fractions d.plant first f) y
  unfolding candidate_total total_of
  replaced l m light mass over y grid own t =
      let p = d.plant in
      let x = d.concentrations in
      let k = (permitted_keeps p x y).0 t in
      let g = (grid_ranges p.tank y).0 grid in
      let e = mass_kept p x light.0 l light.3 in
      let own_mass = (mass_kept p x f m mass).1 in
      let less : light.0 < y.fraction = omega (arith, light.2) in
      let z : Candidate = record { fraction = light.0; return_ratio = y.return_ratio; thickening = y.thickening } in
      let there : T (on_grid p.tank z) =
      (grid_ranges p.tank z).1 (record { fraction = record { least = omega (arith, light.1); most = omega (arith, g.fraction) }; ratio = g.ratio; time = g.time }) in
      let total : candidate_total p x z ≤ candidate_total p x y =
      rw own
      (let h = lighter (reactor_of p x light.0).mass (reactor_of p x f).mass (reactor_solids p.process (settling_of p y.return_ratio y.thickening).solids) (omega (arith, e.1, own_mass)) in
      omega arith) in (
        z,
        record { on_grid = there; since = light.1; before = light.2 },
        (permitted_keeps p x z).1 (record { grid = there; fraction = e.0; tank = k.tank }),
        record { total = total; fraction = λ q. omega arith; ratio = λ q w. omega arith; time = λ q w r. omega arith },
      )

  -- A fraction is left out that is not covered, or no lighter than a covered one before it: it holds no candidate that is both permitted
  -- and better, and the least key of those before it is that of those up to it.
  pub left_out :
      (light mass : Option ℕ) (best : Option Key) → Lightest d first f light → kept_mass d.plant d.concentrations f ≡ mass → Passed light mass
      → LeastOfFractions d first f best
      → LeastOfFractions d first (f + 1) best
  left_out light mass best lightest value passed =
      grown d.plant d.concentrations (Fractions d.plant first f) (Fractions d.plant first (f + 1)) best
      (λ y v. record { on_grid = v.on_grid; since = v.since; before = omega (arith, v.before) })
      (λ y v t. go y v t (ltb y.fraction f) refl)
    where
      own : (y : Candidate) → Fractions d.plant first (f + 1) y → ltb y.fraction f ≡ false → y.fraction ≡ f
      own y v e = let a : f ≤ y.fraction = ltb-false y.fraction f e in omega (arith, v.before)

      kept : (y : Candidate) → T (permitted d.plant d.concentrations y) → y.fraction ≡ f → FractionKept d.plant d.concentrations f
      kept y t e = subst (FractionKept d.plant d.concentrations) e ((permitted_keeps d.plant d.concentrations y).0 t).fraction

      over :
          (light mass : Option ℕ) → Lightest d first f light → kept_mass d.plant d.concentrations f ≡ mass → Passed light mass
          → (y : Candidate) → T (on_grid d.plant.tank y) → y.fraction ≡ f → T (permitted d.plant d.concentrations y)
          → Beaten d.plant d.concentrations (Fractions d.plant first f) y
      over light None s e q y g o t = absurd (let h = kept_mass_lem d.plant d.concentrations f (kept y t o) in let z : ◌≡◌ {A = ℕ} 0 1 = cc in omega arith)
      over None (Some m) s e q y g o t = absurd q
      over (Some l) (Some m) s e q y g o t = replaced l m s e q y g o t

      go : (y : Candidate) → Fractions d.plant first (f + 1) y → T (permitted d.plant d.concentrations y) → (q : Bool) → ltb y.fraction f ≡ q → Beaten d.plant d.concentrations (Fractions d.plant first f) y
      go y v t true e = (y, record { on_grid = v.on_grid; since = v.since; before = ltb-true y.fraction f e }, t, not_before_self (candidate_total d.plant d.concentrations) y)
      go y v t false e = over light mass lightest value passed y v.on_grid (own y v e) t

-- a fraction once passed stays passed
pub later : (d : Accepted) (first f : ℕ) (l : Option ℕ) → Lightest d first f l → Lightest d first (f + 1) l
later d first f None h = tt
later d first f (Some m) h = (h.0, h.1, omega (arith, h.2), h.3)
