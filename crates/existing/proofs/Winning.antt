-- An index is won exactly where the fraction keeps its rules, which do not know the index, and the tank of some return ratio wins; and
-- the rules of the call, in their order, by their tests. Assumes nothing.
use mathlib.Core.Logic.{◌↔◌}
use mathlib.Core.Path.{◌≡◌, refl, sym, ap, subst, ◌∙◌}
use mathlib.Core.Bool.{Bool, true, false, cond, ◌&&◌}
use mathlib.Core.List.{List, [], ◌∷◌}
use Prim.Native.Nat.{ℕ}
use native.Mathlib.Omega.{arith}
use lib.Dec.{T, leb, leb→le}
use lib.Ieee.Fits.{and_i, and_l, and_r}
use Rattle.std.specs.Prelude.{Ok, Err, Option, Some, None, is_ok}
use Rattle.rules.specs.Limits.{least_fraction, most_fraction, least_time, most_time}
use Rattle.rules.specs.Rules.{Rule, rule, all_kept, verdict, after}
use Rattle.rules.specs.PlantData.{within}
use Rattle.rules.specs.Ranges.{GridFraction, GridTime, Index, PlantRanges, ConcentrationRanges}
use Rattle.rules.specs.Accepting.{values_of, data_rules, accept_by, accept}
use Rattle.rules.specs.ReactorSteps.{reactor_of, reactor_solids, reactor_volume}
use Rattle.rules.specs.SettlingSteps.{settling_of}
use Rattle.rules.specs.Examining.{sheet_from, sheet_of, fraction_rules, tank_rules, permitted}
use Rattle.rules.specs.OtherSteps.{with_index}
use Rattle.rules.specs.Existing.{operated, fits_existing, wins, CanBeWon, SmallestLost, span_valid, sizes_positive, operated_on_grid, built_rules, accept_built, HeldOrLost}
use Rattle.rules.specs.declared.Plant.{Plant}
use Rattle.rules.specs.declared.Readings.{Readings}
use Rattle.rules.specs.declared.Concentrations.{Concentrations}
use Rattle.rules.specs.declared.Reactor.{Reactor}
use Rattle.rules.specs.declared.Settling.{Settling}
use Rattle.rules.specs.declared.Existing.{Existing}
use Rattle.rules.specs.declared.IndexSpan.{IndexSpan}
use Rattle.rules.specs.declared.Refusal.{Refusal}
use Rattle.rules.specs.Results.{Verdict, Acceptance}
use Rattle.rules.proofs.Tests.{within_between}
use Rattle.rules.proofs.RangeFacts.{grid_ranges}
use Rattle.rules.proofs.RuleLists.{verdict_append, kept_append}
use Rattle.rules.proofs.AcceptedData.{accepted_kept, none_due_ranges}
use Rattle.rules.proofs.Examined.{FractionKept, Keeps, permitted_keeps}
use Rattle.rules.proofs.ExistingLaws.{reactor_at_index, fraction_rules_at_index}
use Rattle.existing.specs.Tanks.{sizes_fit, tank_wins, WonAt, SpanTried}

-- ---- the rules of the call

-- a verdict that is broken stands, and one that is kept leaves what comes after it
abbrev first_kept : Verdict → Acceptance → Acceptance
first_kept (Ok u) later = later
first_kept (Err n) later = Err n

-- what is accepted, once a last verdict is kept
abbrev last_kept : Acceptance → Verdict → Acceptance
last_kept (Err n) v = Err n
last_kept (Ok x) (Ok u) = Ok x
last_kept (Ok x) (Err n) = Err n

-- 20, 21, the data's answer and 6, in turn
pub in_turn :
    (p : Plant) (r : Readings) (e : Existing) (span : IndexSpan)
    → accept_built p r e span
    ≡ first_kept (cond (span_valid span) (Ok tt) (Err Refusal.Span))
    (first_kept (cond (sizes_positive e) (Ok tt) (Err Refusal.BuiltSize))
    (last_kept (accept p r) (cond (operated_on_grid e) (Ok tt) (Err Refusal.OffGrid))))
unfolding accept_built built_rules accept accept_by
in_turn p r e span =
    rw (verdict_append (data_rules p r) (rule Refusal.OffGrid (operated_on_grid e) ∷ []))
    (go (span_valid span) (sizes_positive e) (operated_on_grid e) (verdict (data_rules p r)))
  where
    go :
        (s z g : Bool) (v : Verdict)
        → accept_by (cond s (cond z (after v (cond g (Ok tt) (Err Refusal.OffGrid))) (Err Refusal.BuiltSize)) (Err Refusal.Span)) (values_of p r)
        ≡ first_kept (cond s (Ok tt) (Err Refusal.Span))
        (first_kept (cond z (Ok tt) (Err Refusal.BuiltSize)) (last_kept (accept_by v (values_of p r)) (cond g (Ok tt) (Err Refusal.OffGrid))))
    go false z g v = refl
    go true false g v = refl
    go true true g (Err n) = refl
    go true true true (Ok u) = refl
    go true true false (Ok u) = refl

-- what is accepted keeps 20 and 6 and is in its ranges
pub built_accepted :
    (p : Plant) (r : Readings) (e : Existing) (span : IndexSpan) (x : Concentrations)
    → accept_built p r e span ≡ Ok x
    → PlantRanges p × ConcentrationRanges x × T (operated_on_grid e) × T (span_valid span)
unfolding accept_built built_rules
built_accepted p r e span x h =
    let given = accepted_kept (built_rules p r e span) (values_of p r) x h in
    let sized = and_r (span_valid span) _ given.0 in
    let both = (kept_append (data_rules p r) (rule Refusal.OffGrid (operated_on_grid e) ∷ [])).0 (and_r (sizes_positive e) _ sized) in
    let ranges = none_due_ranges p r both.0 in
    (ranges.0, subst ConcentrationRanges given.1 ranges.1, and_l (operated_on_grid e) true both.1, and_l (span_valid span) _ given.0)

-- ---- the tank of a return ratio

-- rules are all kept where the verdict on them is
verdict_kept : (l : List Rule) → all_kept l ≡ is_ok (verdict l)
verdict_kept [] = refl
verdict_kept (r ∷ later) = go r.kept (verdict_kept later)
  where
    go : (k : Bool) → all_kept later ≡ is_ok (verdict later) → (k && all_kept later) ≡ is_ok (cond k (verdict later) (Err r.refusal))
    go true h = h
    go false h = refl

-- so the tank wins where the verdict on its rules is kept and what it needs is built
pub tank_by_verdict :
    (p : Plant) (e : Existing) (mass ratio : ℕ) (s : Settling) (v : Verdict)
    → s ≡ settling_of p ratio e.thickening
    → v ≡ verdict (tank_rules p s)
    → tank_wins p e mass ratio ≡ (is_ok v && sizes_fit e (reactor_volume mass (reactor_solids p.process s.solids)) s.surface s.depth)
unfolding tank_wins
tank_by_verdict p e mass ratio s v hs hv = rw (← hs, hv, verdict_kept (tank_rules p s))

-- and the fraction keeps its rules where the verdict on them is kept
pub fraction_by_verdict :
    (p : Plant) (x : Concentrations) (f : ℕ) (r : Reactor) (v : Verdict)
    → r ≡ reactor_of p x f
    → v ≡ verdict (fraction_rules p x r)
    → all_kept (fraction_rules p x (reactor_of p x f)) ≡ is_ok v
fraction_by_verdict p x f r v hr hv = rw (← hr, hv, verdict_kept (fraction_rules p x r))

-- ---- an index

-- a plant in its ranges is so at every index of a sludge that does not bulk
pub ranges_at_index : (index : ℕ) (p : Plant) → PlantRanges p → Index index → PlantRanges (with_index index p)
unfolding with_index
ranges_at_index index p r i =
    record {
      load = r.load;
      flow = r.flow;
      wet = r.wet;
      design = r.design;
      aeration = r.aeration;
      index = i;
      nitrate = r.nitrate;
      phosphorus = r.phosphorus;
      carbon_peak = r.carbon_peak;
      nitrogen_peak = r.nitrogen_peak;
      saturation = r.saturation;
      surface = r.surface;
      depth = r.depth;
      dose = r.dose;
      consent = r.consent;
    }

-- the fraction and the thickening time that keep 6
pub operated_ranges : (e : Existing) → T (operated_on_grid e) → GridFraction e.fraction × GridTime e.thickening
unfolding operated_on_grid
operated_ranges e t = (
  (within_between least_fraction most_fraction e.fraction).0 (and_l (within least_fraction most_fraction e.fraction) _ t),
  (within_between least_time most_time e.thickening).0 (and_r (within least_fraction most_fraction e.fraction) _ t),
)

-- the fraction's rules are kept at one index where they are at another
fraction_at_index : (index : ℕ) (p : Plant) (x : Concentrations) (f : ℕ) → FractionKept (with_index index p) x f ↔ FractionKept p x f
fraction_at_index index p x f = (subst (λ (b : Bool). T b) same, subst (λ (b : Bool). T b) (sym same))
  where
    same : all_kept (fraction_rules (with_index index p) x (reactor_of (with_index index p) x f)) ≡ all_kept (fraction_rules p x (reactor_of p x f))
    same = ap all_kept (fraction_rules_at_index index p x (reactor_of (with_index index p) x f) ∙ ap (fraction_rules p x) (reactor_at_index index p x f))

-- what fits of a sheet is what fits of its tank and of the reactor for its mass
fits_by_tank :
    (index : ℕ) (p : Plant) (x : Concentrations) (e : Existing) (ratio mass : ℕ)
    → mass ≡ (reactor_of p x e.fraction).mass
    → let s = settling_of (with_index index p) ratio e.thickening in
    fits_existing e (sheet_of (with_index index p) x (operated e ratio))
    ≡ sizes_fit e (reactor_volume mass (reactor_solids p.process s.solids)) s.surface s.depth
unfolding fits_existing sheet_of sheet_from with_index
fits_by_tank index p x e ratio mass h =
    let s = settling_of (with_index index p) ratio e.thickening in
    ap (λ (m : ℕ). sizes_fit e (reactor_volume m (reactor_solids (with_index index p).process s.solids)) s.surface s.depth)
    (ap (λ (r : Reactor). r.mass) (reactor_at_index index p x e.fraction) ∙ sym h)

-- the fraction's rules are kept, and 6 is: an index can be won exactly by its tanks
pub won_by_tank :
    (index : ℕ) (p : Plant) (x : Concentrations) (e : Existing) (mass : ℕ)
    → T (operated_on_grid e)
    → FractionKept p x e.fraction
    → mass ≡ (reactor_of p x e.fraction).mass
    → WonAt p e mass index ↔ CanBeWon p x e index
unfolding wins tank_wins with_index
won_by_tank index p x e mass grid fraction h = (forth, back)
  where
    q : Plant
    q = with_index index p

    sizes : ℕ → Bool
    sizes ratio =
        let s = settling_of q ratio e.thickening in
        sizes_fit e (reactor_volume mass (reactor_solids p.process s.solids)) s.surface s.depth

    forth : WonAt p e mass index → CanBeWon p x e index
    forth w =
        let y = operated e w.ratio in
        let rules = all_kept (tank_rules q (settling_of q w.ratio e.thickening)) in
        let ranges = operated_ranges e grid in
        let keeps : Keeps q x y = record {
          grid = (grid_ranges q.tank y).1 (record { fraction = ranges.0; ratio = record { least = w.least; most = w.most }; time = ranges.1 });
          fraction = (fraction_at_index index p x e.fraction).1 fraction;
          tank = and_l rules (sizes w.ratio) w.won;
        } in (
          w.ratio,
          and_i (permitted q x y) _ ((permitted_keeps q x y).1 keeps)
              (subst T (sym (fits_by_tank index p x e w.ratio mass h)) (and_r rules (sizes w.ratio) w.won)),
        )

    back : CanBeWon p x e index → WonAt p e mass index
    back (ratio, t) =
        let y = operated e ratio in
        let fits = fits_existing e (sheet_of q x y) in
        let keeps = (permitted_keeps q x y).0 (and_l (permitted q x y) fits t) in
        let ranges = (grid_ranges q.tank y).0 keeps.grid in
        record {
          ratio = ratio;
          least = ranges.ratio.least;
          most = ranges.ratio.most;
          won = and_i (all_kept (tank_rules q (settling_of q ratio e.thickening))) (sizes ratio) keeps.tank
              (subst T (fits_by_tank index p x e ratio mass h) (and_r (permitted q x y) fits t));
        }

-- what was tried with the tanks is what is held or lost
pub tried_held :
    (p : Plant) (x : Concentrations) (e : Existing) (span : IndexSpan) (mass : ℕ) (a : Option ℕ)
    → T (operated_on_grid e)
    → FractionKept p x e.fraction
    → mass ≡ (reactor_of p x e.fraction).mass
    → SpanTried p e mass span a
    → HeldOrLost p x e span (Ok a)
tried_held p x e span mass None grid fraction h tried = λ i within. (won_by_tank i p x e mass grid fraction h).0 (tried i within)
tried_held p x e span mass (Some index) grid fraction h tried =
    record {
      member = tried.member;
      lost = λ w. tried.lost ((won_by_tank index p x e mass grid fraction h).1 w);
      smaller = λ i within less. (won_by_tank i p x e mass grid fraction h).0 (tried.smaller i within less);
    }

-- where the fraction breaks a rule, the least index of the span is lost
pub least_lost :
    (p : Plant) (x : Concentrations) (e : Existing) (span : IndexSpan)
    → T (span_valid span)
    → all_kept (fraction_rules p x (reactor_of p x e.fraction)) ≡ false
    → SmallestLost p x e span span.least
unfolding span_valid wins
least_lost p x e span valid broken =
    record {
      member = (omega arith, leb→le span.least span.most (and_l (leb span.least span.most) _ valid));
      lost = lost;
      smaller = λ i within less. absurd (omega (arith, within, less));
    }
  where
    lost : CanBeWon p x e span.least → ⊥
    lost (ratio, t) =
        let q = with_index span.least p in
        let y = operated e ratio in
        let keeps = (permitted_keeps q x y).0 (and_l (permitted q x y) (fits_existing e (sheet_of q x y)) t) in
        subst T broken ((fraction_at_index span.least p x e.fraction).0 keeps.fraction)
