-- The census out of the two tallies: a candidate of the grid is answered by its fraction's verdict, or by its settling tank's
-- where the fraction keeps its rules, and the two are independent. Assumes nothing.
use mathlib.Core.Path.{◌≡◌, refl, sym, ap, ap₂, ◌∙◌}
use mathlib.Core.Bool.{Bool, true, false, cond}
use mathlib.Core.List.{List}
use Prim.Native.Nat.{ℕ, ◌+◌, ◌*◌, ◌<◌}
use native.Mathlib.Omega.{arith}
use borrow.Author.Tests.{eqb-true, eqb-false}
use lib.Dec.{T, eqb}
use Rattle.std.specs.Prelude.{Ok, Err}
use Rattle.rules.specs.Sums.{values_from}
use Rattle.rules.specs.Rules.{after}
use Rattle.rules.specs.AgeNitrate.{on_grid}
use Rattle.rules.specs.Examining.{judge}
use Rattle.rules.specs.Answers.{refusal_number, answer_number}
use Rattle.rules.specs.Census.{one, counted, answer_numbers}
use Rattle.rules.specs.declared.Plant.{Plant}
use Rattle.rules.specs.declared.Concentrations.{Concentrations}
use Rattle.rules.specs.declared.Candidate.{Candidate}
use Rattle.rules.specs.Results.{Verdict}
use Rattle.rules.proofs.SumLaws.{values_same}
use Rattle.rules.proofs.RuleOrder.{refusal_number_between}
use Rattle.rules.proofs.GridSums.{ratios, times, grid_same, grid_plus, over_fractions, over_product}
use Rattle.rules.proofs.CensusLaws.{one_other, fraction_verdict, tank_verdict, judged_number}
use Rattle.census.specs.Tallies.{fractions, fraction_number, tank_number, fraction_count, tank_count, at, Tally, pairs}

-- two verdicts in turn: both are kept, or the first broken is of the one or of the other
both_kept : (v w : Verdict) → one (answer_number (after v w)) 0 ≡ one (answer_number v) 0 * one (answer_number w) 0
unfolding answer_number
both_kept (Ok u) w = omega arith
both_kept (Err n) w = rw (one_other (refusal_number n) 0 (λ e. let b = refusal_number_between n in omega arith)) (omega arith)

first_broken : (v w : Verdict) (k : ℕ) → (k ≡ 0 → ⊥) → one (answer_number (after v w)) k ≡ one (answer_number v) k + one (answer_number v) 0 * one (answer_number w) k
unfolding answer_number
first_broken (Ok u) w k apart = omega (arith, one_other 0 k (λ e. apart (sym e)))
first_broken (Err n) w k apart = rw (one_other (refusal_number n) 0 (λ e. let b = refusal_number_between n in omega arith)) (omega arith)

module _ (p : Plant) (x : Concentrations) where
  -- a candidate's number by its fraction's and its tank's
  kept_number :
      (y : Candidate) → T (on_grid p.tank y)
      → one (answer_number (judge p x y)) 0
      ≡ one (fraction_number p x y.fraction) 0 * one (tank_number p y.return_ratio y.thickening) 0
  unfolding fraction_number tank_number
  kept_number y on =
      ap (λ (n : ℕ). one n 0) (judged_number p x y on) ∙ both_kept (fraction_verdict p x y.fraction) (tank_verdict p y.return_ratio y.thickening)

  broken_number :
      (k : ℕ) → (k ≡ 0 → ⊥) → (y : Candidate) → T (on_grid p.tank y)
      → one (answer_number (judge p x y)) k
      ≡ one (fraction_number p x y.fraction) k + one (fraction_number p x y.fraction) 0 * one (tank_number p y.return_ratio y.thickening) k
  unfolding fraction_number tank_number
  broken_number k apart y on =
      ap (λ (n : ℕ). one n k) (judged_number p x y on) ∙ first_broken (fraction_verdict p x y.fraction) (tank_verdict p y.return_ratio y.thickening) k apart

  -- the two tallies of the whole grid
  abbrev by_fraction : ℕ → ℕ
  by_fraction k = fraction_count p x fractions k

  abbrev by_tank : ℕ → ℕ
  by_tank k = tank_count p (ratios p.tank) times k

  pub count_kept : counted p x 0 ≡ by_fraction 0 * by_tank 0
  unfolding counted
  count_kept =
      grid_same p.tank _ _ kept_number
      ∙ over_product p.tank (λ f. one (fraction_number p x f) 0) (λ r h. one (tank_number p r h) 0)

  pub count_broken : (k : ℕ) → (k ≡ 0 → ⊥) → counted p x k ≡ by_fraction k * (ratios p.tank * times) + by_fraction 0 * by_tank k
  unfolding counted
  count_broken k apart =
      grid_same p.tank _ _ (broken_number k apart)
      ∙ (grid_plus p.tank
      (λ y. one (fraction_number p x y.fraction) k)
      (λ y. one (fraction_number p x y.fraction) 0 * one (tank_number p y.return_ratio y.thickening) k)
      ∙ ap₂ ◌+◌
      (over_fractions p.tank (λ f. one (fraction_number p x f) k))
      (over_product p.tank (λ f. one (fraction_number p x f) 0) (λ r h. one (tank_number p r h) k)))

  -- the pairs of two tallies of the whole grid are the census
  pub pairs_counted :
      (fraction tank : List ℕ)
      → Tally (fraction_count p x fractions) fraction
      → Tally (tank_count p (ratios p.tank) times) tank
      → (k : ℕ) → k < answer_numbers
      → pairs fraction tank (ratios p.tank * times) k ≡ counted p x k
  unfolding pairs
  pairs_counted fraction tank f t k b = go (eqb k 0) refl
    where
      none : 0 < answer_numbers
      none = omega arith

      go :
          (z : Bool) → eqb k 0 ≡ z
          → cond z (at fraction 0 * at tank 0) (at fraction k * (ratios p.tank * times) + at fraction 0 * at tank k) ≡ counted p x k
      go true e =
          ap₂ ◌*◌ (f.holds 0 none) (t.holds 0 none) ∙ (sym count_kept ∙ ap (counted p x) (sym (eqb-true k 0 e)))
      go false e =
          ap₂ ◌+◌ (ap (λ (n : ℕ). n * (ratios p.tank * times)) (f.holds k b)) (ap₂ ◌*◌ (f.holds 0 none) (t.holds k b))
          ∙ sym (count_broken k (eqb-false k 0 e))

  pub pairs_census :
      (fraction tank : List ℕ)
      → Tally (fraction_count p x fractions) fraction
      → Tally (tank_count p (ratios p.tank) times) tank
      → values_from 0 answer_numbers (pairs fraction tank (ratios p.tank * times)) ≡ values_from 0 answer_numbers (counted p x)
  pairs_census fraction tank f t = values_same 0 answer_numbers _ _ (pairs_counted fraction tank f t)
