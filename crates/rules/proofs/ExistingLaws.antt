-- Existing tanks: what depends on the fraction alone does not know the index; the answer is one; and its number and index are what
-- the call promises of them. Assumes nothing.
use mathlib.Core.Logic.{◌↔◌, inl, inr}
use mathlib.Core.Path.{◌≡◌, refl, ap, sym, subst, ◌∙◌}
use mathlib.Core.List.{List}
use Prim.Native.Nat.{ℕ, suc, ◌≤◌, ◌<◌}
use native.Mathlib.Omega.{arith}
use native.Mathlib.Nat.{lt_of_not-le, le_antisymm}
use lib.Dec.{T, leb, leb→le, le→leb}
use lib.Ieee.Fits.{and_i, and_l, and_r}
use Rattle.std.specs.Prelude.{Result, Ok, Err, Option, Some, None}
use Rattle.rules.specs.Limits.{least_index, most_index}
use Rattle.rules.specs.Rules.{Rule}
use Rattle.rules.specs.Accepting.{values_of}
use Rattle.rules.specs.Answers.{answer_number, value_or_zero}
use Rattle.rules.specs.ReactorSteps.{reactor_of, reactor_dosed, reactor_by, sludge_production}
use Rattle.rules.specs.TermSteps.{nitrifies, term_covered, term_share, term_removes, term_fraction}
use Rattle.rules.specs.Examining.{sheet_of, fraction_rules, permitted}
use Rattle.rules.specs.OtherSteps.{with_index}
use Rattle.rules.specs.Existing.{operated, fits_existing, wins, CanBeWon, InSpan, HoldsAtEach, span_valid, SmallestLost, built_rules, accept_built, BuiltAccepted, BuiltAnswered}
use Rattle.rules.specs.ExistingOutcome.{BuiltOutcome}
use Rattle.rules.specs.declared.Plant.{Plant}
use Rattle.rules.specs.declared.Readings.{Readings}
use Rattle.rules.specs.declared.Concentrations.{Concentrations}
use Rattle.rules.specs.declared.Reactor.{Reactor}
use Rattle.rules.specs.declared.Existing.{Existing}
use Rattle.rules.specs.declared.IndexSpan.{IndexSpan}
use Rattle.rules.specs.Results.{Acceptance}
use Rattle.rules.proofs.RuleOrder.{refusal_number_between}
use Rattle.rules.proofs.AcceptedData.{accepted_kept, refused_broken}
use Rattle.rules.specs.declared.Refusal.{Refusal}

-- the reactor is the same at every index ..
pub reactor_at_index : (index : ℕ) (p : Plant) (x : Concentrations) (f : ℕ) → reactor_of (with_index index p) x f ≡ reactor_of p x f
unfolding with_index reactor_of reactor_dosed reactor_by sludge_production
reactor_at_index index p x f = refl

-- .. and so are the rules of the fraction
pub fraction_rules_at_index : (index : ℕ) (p : Plant) (x : Concentrations) (reactor : Reactor) → fraction_rules (with_index index p) x reactor ≡ fraction_rules p x reactor
unfolding with_index nitrifies term_covered term_share term_removes term_fraction
fraction_rules_at_index index p x reactor = refl

-- The plant's own index is not used further: whether a ratio wins an index is the same for plants alike but for it, and so are the
-- readings' values.
pub own_index_unused :
    (own : ℕ) (p : Plant) (r : Readings) (x : Concentrations) (e : Existing) (index ratio : ℕ)
    → (wins (with_index own p) x e index ratio ≡ wins p x e index ratio) × (values_of (with_index own p) r ≡ values_of p r)
unfolding wins with_index values_of
own_index_unused own p r x e index ratio = (refl, refl)

-- an index of a span that keeps 20
pub span_index : (span : IndexSpan) (index : ℕ) → T (span_valid span) → InSpan span index → (least_index ≤ index) × (index ≤ most_index)
unfolding span_valid
span_index span index valid within =
    let ends = and_r (leb span.least span.most) _ valid in
    let least = leb→le least_index span.least (and_l (leb least_index span.least) (leb span.most most_index) ends) in
    let most = leb→le span.most most_index (and_r (leb least_index span.least) (leb span.most most_index) ends) in
    (omega (arith, least, within), omega (arith, most, within))

-- the smallest index lost is one
lost_once :
    (p : Plant) (x : Concentrations) (e : Existing) (span : IndexSpan) (i j : ℕ)
    → SmallestLost p x e span i
    → SmallestLost p x e span j
    → i ≡ j
lost_once p x e span i j a b = le_antisymm (no_later i j a b) (no_later j i b a)
  where
    no_later : (i j : ℕ) → SmallestLost p x e span i → SmallestLost p x e span j → i ≤ j
    no_later i j a b = let below : i < suc j = lt_of_not-le (λ l. b.lost (a.smaller j b.member l)) in omega arith

-- two answers for the same data, tanks and span are the same
pub built_once :
    (p : Plant) (r : Readings) (e : Existing) (span : IndexSpan) (a b : Result (Option ℕ) Refusal)
    → BuiltAnswered p r e span a
    → BuiltAnswered p r e span b
    → a ≡ b
built_once p r e span a b g h = go (accept_built p r e span) a b g h
  where
    go : (o : Acceptance) (a b : Result (Option ℕ) Refusal) → BuiltAccepted p e span a o → BuiltAccepted p e span b o → a ≡ b
    go (Err n) a b g h = g ∙ sym h
    go (Ok x) (Ok None) (Ok None) g h = refl
    go (Ok x) (Ok None) (Ok (Some j)) g h = absurd (h.lost (g j h.member))
    go (Ok x) (Ok None) (Err n) g h = absurd h
    go (Ok x) (Ok (Some i)) (Ok None) g h = absurd (g.lost (h i g.member))
    go (Ok x) (Ok (Some i)) (Ok (Some j)) g h = ap (λ (k : ℕ). Ok (Some k)) (lost_once p x e span i j g h)
    go (Ok x) (Ok (Some i)) (Err n) g h = absurd h
    go (Ok x) (Err n) b g h = absurd g

-- the call's number and index are what is promised of them
pub built_outcome :
    (p : Plant) (r : Readings) (e : Existing) (span : IndexSpan) (a : Result (Option ℕ) Refusal)
    → BuiltAnswered p r e span a
    → BuiltOutcome p r e span (answer_number a) (value_or_zero a)
unfolding answer_number value_or_zero accept_built
built_outcome p r e span a h = go (accept_built p r e span) refl a h
  where
    rules : List Rule
    rules = built_rules p r e span

    go : (o : Acceptance) → accept_built p r e span ≡ o → (a : Result (Option ℕ) Refusal) → BuiltAccepted p e span a o → BuiltOutcome p r e span (answer_number a) (value_or_zero a)
    go (Err n) q a g =
        subst (λ (b : Result (Option ℕ) Refusal). BuiltOutcome p r e span (answer_number b) (value_or_zero b)) (sym g)
        (inr (inr (record { refusal = n; is_due = (refused_broken rules (values_of p r) n).0 q; numbered = refl; zeros = (refl, tt) })))
    go (Ok x) q (Ok None) g =
        let given = accepted_kept rules (values_of p r) x q in
        inl (record { kept = given.0; numbered = refl; zero = refl; holds = subst (λ (y : Concentrations). HoldsAtEach p y e span) (sym given.1) g })
    go (Ok x) q (Ok (Some i)) g =
        let given = accepted_kept rules (values_of p r) x q in
        inr (inl (record { kept = given.0; numbered = refl; smallest = subst (λ (y : Concentrations). SmallestLost p y e span i) (sym given.1) g }))
    go (Ok x) q (Err n) g = absurd g

-- Where no refusal is due, the index given back is 0 exactly where each index of the span can be won.
pub zero_when_held :
    (p : Plant) (r : Readings) (e : Existing) (span : IndexSpan) (number index : ℕ)
    → BuiltOutcome p r e span number index
    → number ≡ 0
    → (index ≡ 0) ↔ HoldsAtEach p (values_of p r) e span
unfolding built_rules
zero_when_held p r e span number index (inl told) z = (λ i. told.holds, λ h. told.zero)
zero_when_held p r e span number index (inr (inl told)) z = (
  λ i. absurd (omega (arith, i, span_index span index (and_l (span_valid span) _ told.kept) told.smallest.member)),
  λ h. absurd (told.smallest.lost (h index told.smallest.member)),
)
zero_when_held p r e span number index (inr (inr told)) z = absurd (omega (arith, z, told.numbered, refusal_number_between told.refusal))

-- the same operation in tanks of other sizes
abbrev pub resized : ℕ → ℕ → ℕ → Existing → Existing
resized reactor surface depth e =
    record { reactor = reactor; surface = surface; depth = depth; fraction = e.fraction; thickening = e.thickening }

-- Tanks no smaller in any size win every index that smaller ones win.
pub larger_tanks :
    (p : Plant) (x : Concentrations) (e : Existing) (reactor surface depth index : ℕ)
    → e.reactor ≤ reactor
    → e.surface ≤ surface
    → e.depth ≤ depth
    → CanBeWon p x e index
    → CanBeWon p x (resized reactor surface depth e) index
unfolding wins fits_existing
larger_tanks p x e reactor surface depth index hr hs hd (ratio, t) =
    let q = with_index index p in
    let s = sheet_of q x (operated e ratio) in
    let fits = and_r (permitted q x (operated e ratio)) _ t in
    let flat = and_r (leb s.reactor e.reactor) _ fits in (
      ratio,
      and_i (permitted q x (operated e ratio)) _ (and_l (permitted q x (operated e ratio)) _ t)
          (and_i (leb s.reactor reactor) _ (wider s.reactor e.reactor reactor hr (and_l (leb s.reactor e.reactor) _ fits))
          (and_i (leb s.surface surface) _ (wider s.surface e.surface surface hs (and_l (leb s.surface e.surface) _ flat))
          (wider s.depth e.depth depth hd (and_r (leb s.surface e.surface) _ flat)))),
    )
  where
    wider : (n a b : ℕ) → a ≤ b → T (leb n a) → T (leb n b)
    wider n a b h t = le→leb n b (omega (arith, h, leb→le n a t))
