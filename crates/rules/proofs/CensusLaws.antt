-- The census accounts for the whole grid: its counts add up to the grid's size, all of them and those of 0, 7, 15, 16 and 8 to 10
-- alone. Assumes nothing.
use mathlib.Core.Logic.{◌⊎◌, inl, inr}
use mathlib.Core.Path.{◌≡◌, refl, sym, ap, ◌∙◌, subst}
use mathlib.Core.Bool.{Bool, true, false, cond}
use mathlib.Core.List.{[], ◌∷◌}
use Prim.Native.Nat.{ℕ, zero, suc, ◌+◌, ◌≤◌, ◌<◌}
use native.Mathlib.Nat.{eq-or-lt_of_le}
use native.Mathlib.Omega.{arith}
use borrow.Author.Tests.{eq-eqb, ne_eqb}
use lib.Dec.{T, eqb, leb}
use Rattle.std.specs.Prelude.{Ok, Err}
use denote.Floats.{is_true}
use Rattle.std.proofs.lemmas.Bool.{cond-true, cond_both}
use Rattle.rules.specs.Sums.{sum_from}
use Rattle.rules.specs.Rules.{rule, verdict, after}
use Rattle.rules.specs.AgeNitrate.{on_grid, covered}
use Rattle.rules.specs.ReactorSteps.{reactor_of}
use Rattle.rules.specs.SettlingSteps.{settling_of, solids_kept}
use Rattle.rules.specs.Consent.{terms_of, every}
use Rattle.rules.specs.TermSteps.{nitrifies, term_covered}
use Rattle.rules.specs.Examining.{sheet_of, fraction_rules, tank_rules, candidate_rules, answer_by, judge}
use Rattle.rules.specs.Answers.{answer_number}
use Rattle.rules.specs.Census.{sum_over_grid, grid_size, one, counted, answer_numbers}
use Rattle.rules.specs.declared.Plant.{Plant}
use Rattle.rules.specs.declared.TankFlow.{TankFlow}
use Rattle.rules.specs.declared.Concentrations.{Concentrations}
use Rattle.rules.specs.declared.Candidate.{Candidate}
use Rattle.rules.specs.declared.Sheet.{Sheet}
use Rattle.rules.specs.declared.Refusal.{Refusal}
use Rattle.rules.specs.Results.{Verdict}
use Rattle.rules.proofs.RuleLists.{verdict_append}
use Rattle.rules.proofs.RuleOrder.{verdict_number_below}
use Rattle.rules.proofs.GridSums.{grid_same, grid_plus, grid_swap, grid_ones}

-- ---- one number

pub one_same : (n : ℕ) → one n n ≡ 1
one_same n = ap (λ (b : Bool). cond b 1 0) (eq-eqb n n refl)

pub one_other : (n k : ℕ) → (n ≡ k → ⊥) → one n k ≡ 0
one_other n k apart = ap (λ (b : Bool). cond b 1 0) (ne_eqb n k apart)

pub one_most : (n k : ℕ) → one n k ≤ 1
one_most n k = cond_both (eqb n k) 1 0 (λ m. m ≤ 1) (λ e. omega arith) (λ e. omega arith)

-- of the first m numbers a number is none where it is not below m, and else one
none_of : (n m : ℕ) → m ≤ n → sum_from 0 m (one n) ≡ 0
unfolding sum_from
none_of n zero h = refl
none_of n (suc m) h = omega (arith, none_of n m (omega arith), one_other n (0 + m) (omega arith))

one_of : (n m : ℕ) → n < m → sum_from 0 m (one n) ≡ 1
unfolding sum_from
one_of n zero h = absurd (omega arith)
one_of n (suc m) h = go (eq-or-lt_of_le below) (λ less. one_of n m less)
  where
    below : n ≤ m
    below = omega arith

    go : (n ≡ m) ⊎ (n < m) → (n < m → sum_from 0 m (one n) ≡ 1) → sum_from 0 m (one n) + one n (0 + m) ≡ 1
    go (inl same) before =
        let none : sum_from 0 m (one n) ≡ 0 = none_of n m (omega arith) in
        let at : n ≡ 0 + m = omega arith in
        let here : one n (0 + m) ≡ 1 = subst (λ (j : ℕ). one n j ≡ 1) at (one_same n) in
        omega arith
    go (inr less) before = omega (arith, before less, one_other n (0 + m) (omega arith))

-- ---- what the verdicts say of an answer's number

answer_verdict_lem : (v : Verdict) (s : Sheet) → answer_number (answer_by v s) ≡ answer_number v
unfolding answer_number answer_by
answer_verdict_lem (Ok u) s = refl
answer_verdict_lem (Err n) s = refl

-- the fraction's verdict, the tank's verdict
abbrev pub fraction_verdict : Plant → Concentrations → ℕ → Verdict
fraction_verdict p x f = verdict (fraction_rules p x (reactor_of p x f))

abbrev pub tank_verdict : Plant → ℕ → ℕ → Verdict
tank_verdict p r h = verdict (tank_rules p (settling_of p r h))

-- a candidate of the grid is answered by its fraction's and its tank's verdict in turn
pub judged_number :
    (p : Plant) (x : Concentrations) (y : Candidate)
    → T (on_grid p.tank y)
    → answer_number (judge p x y)
    ≡ answer_number (after (fraction_verdict p x y.fraction) (tank_verdict p y.return_ratio y.thickening))
unfolding judge candidate_rules
judged_number p x y on =
    answer_verdict_lem (verdict (candidate_rules p x y)) (sheet_of p x y)
    ∙ ap answer_number
    (cond-true (on_grid p.tank y) _ (Err Refusal.OffGrid) (is_true (on_grid p.tank y) on)
    ∙ verdict_append (fraction_rules p x (reactor_of p x y.fraction)) (tank_rules p (settling_of p y.return_ratio y.thickening)))

-- ---- the counts add up

-- all of them
pub all_counted : (p : Plant) (x : Concentrations) → sum_from 0 answer_numbers (counted p x) ≡ grid_size p.tank
unfolding counted
all_counted p x =
    grid_swap p.tank 0 answer_numbers (λ k y. one (answer_number (judge p x y)) k)
    ∙ (grid_same p.tank _ (λ y. 1)
    (λ y on.
    one_of (answer_number (judge p x y)) answer_numbers
    (subst (λ (n : ℕ). n < answer_numbers) (sym (judged_number p x y on))
    (verdict_number_below (after (fraction_verdict p x y.fraction) (tank_verdict p y.return_ratio y.thickening)))))
    ∙ grid_ones p.tank)

-- the rules of a fraction and of a tank are answered with one of 0, 7, 15, 16 and 8 to 10
rule_numbers :
    (a b c d e f : Bool) (n : ℕ)
    → n
    ≡ answer_number
    (verdict
    (rule Refusal.Nitrate a
    ∷ rule Refusal.Nitrification b
    ∷ rule Refusal.TermNitrate c
    ∷ rule Refusal.Solids d
    ∷ rule Refusal.Surface e
    ∷ rule Refusal.Depth f
    ∷ []))
    → one n 0 + one n 7 + one n 15 + one n 16 + one n 8 + one n 9 + one n 10 ≡ 1
unfolding answer_number
rule_numbers false b c d e f n q = rw q
rule_numbers true false c d e f n q = rw q
rule_numbers true true false d e f n q = rw q
rule_numbers true true true false e f n q = rw q
rule_numbers true true true true false f n q = rw q
rule_numbers true true true true true false n q = rw q
rule_numbers true true true true true true n q = rw q

-- those of 0 and of these rules: nothing else is counted
pub rules_counted :
    (p : Plant) (x : Concentrations)
    → counted p x 0 + counted p x 7 + counted p x 15 + counted p x 16 + counted p x 8 + counted p x 9 + counted p x 10 ≡ grid_size p.tank
unfolding counted
rules_counted p x =
    sym
    (grid_plus tank (λ y. of y 0 + of y 7 + of y 15 + of y 16 + of y 8 + of y 9) (λ y. of y 10)
    ∙ ap (λ (s : ℕ). s + sum_over_grid tank (λ y. of y 10))
    (grid_plus tank (λ y. of y 0 + of y 7 + of y 15 + of y 16 + of y 8) (λ y. of y 9)
    ∙ ap (λ (s : ℕ). s + sum_over_grid tank (λ y. of y 9))
    (grid_plus tank (λ y. of y 0 + of y 7 + of y 15 + of y 16) (λ y. of y 8)
    ∙ ap (λ (s : ℕ). s + sum_over_grid tank (λ y. of y 8))
    (grid_plus tank (λ y. of y 0 + of y 7 + of y 15) (λ y. of y 16)
    ∙ ap (λ (s : ℕ). s + sum_over_grid tank (λ y. of y 16))
    (grid_plus tank (λ y. of y 0 + of y 7) (λ y. of y 15)
    ∙ ap (λ (s : ℕ). s + sum_over_grid tank (λ y. of y 15)) (grid_plus tank (λ y. of y 0) (λ y. of y 7)))))))
    ∙ (grid_same tank _ (λ y. 1)
    (λ y on.
    let t = settling_of p y.return_ratio y.thickening in
    let f = reactor_of p x y.fraction in
    rule_numbers
    (covered f.removes f.removed_by_dose f.denitrified)
    (every (nitrifies p f) (terms_of p.consent))
    (every (term_covered p x f) (terms_of p.consent))
    (solids_kept t.solids t.sludge_volume)
    (leb t.surface p.site_surface)
    (leb t.depth p.site_depth)
    (answer_number (judge p x y))
    (judged_number p x y on ∙ ap answer_number (sym (verdict_append (fraction_rules p x f) (tank_rules p t)))))
    ∙ grid_ones tank)
  where
    tank : TankFlow
    tank = p.tank

    of : Candidate → ℕ → ℕ
    of y k = one (answer_number (judge p x y)) k
