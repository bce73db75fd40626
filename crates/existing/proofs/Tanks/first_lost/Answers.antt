-- The search ends at the first index that is not won, or after the last. Assumes nothing.
use Rattle.std.proofs.Common.{ℕ, ◌≤◌, ◌<◌, ◌+◌, arith, rules, tests}
use Rattle.std.specs.Prelude.{Option, Some, None}
use Rattle.std.specs.Option.{MatchOption}
use Rattle.std.proofs.lemmas.Iterator.{first_from_Range, serves_from_Range}
use Rattle.rules.proofs.ExistingLaws.{span_index}
use lib.Dec.{leb, leb→le}
use lib.Ieee.Fits.{and_l}
use Rattle.rules.specs.Existing.{span_valid}
use Rattle.rules.specs.declared.IndexSpan.{IndexSpan}
use Rattle.rules.specs.declared.Plant.{Plant}
use Rattle.rules.specs.declared.Existing.{Existing}
use Rattle.existing.specs.Tanks.{WonAt, SpanTried}
use Rattle.existing.proofs.Tanks.first_lost.Goals as goal

pub overflow_add-span : goal.overflow_add-span
unfolding span_valid
overflow_add-span c =
    let span = c.args.span in
    let some : span.least ≤ span.most = leb→le span.least span.most (and_l (leb span.least span.most) _ c.requires) in
    record { fits = omega (arith, span_index span span.most c.requires (some, omega arith)) }

pub find-requires-clause-callable : goal.find-requires-clause-callable
find-requires-clause-callable c =
    serves_from_Range (λ i q k. search (rules, tests))
    (λ i least below y same a b n k fits l.
    let index = span_index c.args.span i c.requires (least, omega arith) in
    rw same (record { least = index.0; most = index.1 }))

module _ (p : Plant) (e : Existing) (mass : ℕ) (span : IndexSpan) where
  tried :
      (r : Option ℕ)
      → MatchOption r ((i : ℕ) → span.least ≤ i → i < span.most + 1 → WonAt p e mass i)
      (λ i. (span.least ≤ i) × (i < span.most + 1) × (WonAt p e mass i → ⊥) × ((k : ℕ) → span.least ≤ k → k < i → WonAt p e mass k))
      → SpanTried p e mass span r
  tried None h = λ i member. h i member.0 (omega (arith, member.1))
  tried (Some i) h = record { member = (h.0, omega (arith, h.1)); lost = h.2; smaller = λ k member below. h.3 k member.0 below }

pub returns : goal.returns
returns c =
    let tanks = c.args.self.now in
    let won = λ (i : ℕ). WonAt tanks.accepted.plant tanks.existing tanks.mass i in
    tried tanks.accepted.plant tanks.existing tanks.mass c.args.span c.find.result
    (first_from_Range _ _ _ c.find.result (λ i. won i → ⊥) won c.find.ensures.ran (λ i q k. search (rules, tests)) (λ i q k. (search rules, search (rules, tests))))
