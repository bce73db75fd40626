-- What examining answers, as the paper's table has it: the refusal of the first rule broken, a sheet exactly when no rule
-- is broken. All of it follows from one law: examining is the verdict on all rules in order.
-- Assumes nothing.
use mathlib.Core.Logic.{◌↔◌}
use mathlib.Core.Path.{◌≡◌, refl, ap, sym, ◌∙◌}
use mathlib.Core.List.{List, ◌++◌}
use Prim.Native.Nat.{ℕ}
use lib.Dec.{T}
use lib.Ieee.Fits.{and_i, and_l, and_r}
use Rattle.std.specs.Prelude.{Ok, Err}
use Rattle.rules.specs.Rules.{Rule, all_kept, verdict, after, FirstBroken}
use Rattle.rules.specs.Accepting.{values_of, data_rules, accept_by, accept}
use Rattle.rules.specs.AgeNitrate.{on_grid}
use Rattle.rules.specs.ReactorSteps.{reactor_of}
use Rattle.rules.specs.SettlingSteps.{settling_of}
use Rattle.rules.specs.Examining.{sheet_of, fraction_rules, tank_rules, candidate_rules, permitted, answer_by, judge, judge_accepted, examine, examination_rules}
use Rattle.rules.specs.declared.Plant.{Plant}
use Rattle.rules.specs.declared.Readings.{Readings}
use Rattle.rules.specs.declared.Concentrations.{Concentrations}
use Rattle.rules.specs.declared.Candidate.{Candidate}
use Rattle.rules.specs.declared.Sheet.{Sheet}
use Rattle.rules.specs.declared.Refusal.{Refusal}
use Rattle.rules.specs.Results.{Verdict}
use Rattle.rules.proofs.RuleLists.{all_kept_verdict, broken_verdict, kept_append, verdict_append}

-- ---- a verdict's answer

designed_by : (v : Verdict) (s t : Sheet) → (answer_by v s ≡ Ok t) ↔ ((v ≡ (Ok tt)) × (s ≡ t))
unfolding answer_by
designed_by (Ok u) s t = (λ e. (refl, cc), λ h. ap Ok h.1)
designed_by (Err n) s t = (λ e. cc, λ h. cc h.0)

refused_by : (v : Verdict) (s : Sheet) (n : Refusal) → (answer_by v s ≡ Err n) ↔ (v ≡ Err n)
unfolding answer_by
refused_by (Ok u) s n = (λ e. cc, λ h. cc)
refused_by (Err m) s n = (λ e. cc, λ h. cc)

-- the answer that rules in order give to a sheet: it is the sheet exactly when all are kept, n exactly when n is the first broken
sheet_by_rules : (l : List Rule) (s t : Sheet) → (answer_by (verdict l) s ≡ Ok t) ↔ (T (all_kept l) × (s ≡ t))
sheet_by_rules l s t = (
  λ e. let h = (designed_by (verdict l) s t).0 e in ((all_kept_verdict l).1 h.0, h.1),
  λ h. (designed_by (verdict l) s t).1 ((all_kept_verdict l).0 h.0, h.1),
)

refusal_by_rules : (l : List Rule) (s : Sheet) (n : Refusal) → (answer_by (verdict l) s ≡ Err n) ↔ FirstBroken l n
refusal_by_rules l s n = (
  λ e. (broken_verdict l n).1 ((refused_by (verdict l) s n).0 e),
  λ f. (refused_by (verdict l) s n).1 ((broken_verdict l n).0 f),
)

-- ---- examining

-- examining is the verdict on all its rules in order
pub examine_by_rules : (p : Plant) (r : Readings) (y : Candidate) → examine p r y ≡ answer_by (verdict (examination_rules p r y)) (sheet_of p (values_of p r) y)
unfolding examine judge_accepted judge accept accept_by examination_rules answer_by
examine_by_rules p r y = go (verdict (data_rules p r)) ∙ ap (λ (v : Verdict). answer_by v (sheet_of p (values_of p r) y)) (sym (verdict_append (data_rules p r) (candidate_rules p (values_of p r) y)))
  where
    go : (v : Verdict) → judge_accepted p y (accept_by v (values_of p r)) ≡ answer_by (after v (verdict (candidate_rules p (values_of p r) y))) (sheet_of p (values_of p r) y)
    go (Ok u) = refl
    go (Err n) = refl

-- a candidate is refused with n exactly when n is the first rule broken, of its data or of its own
pub refused_when_due : (p : Plant) (r : Readings) (y : Candidate) (n : Refusal) → (examine p r y ≡ Err n) ↔ FirstBroken (examination_rules p r y) n
refused_when_due p r y n =
    let law = refusal_by_rules (examination_rules p r y) (sheet_of p (values_of p r) y) n in
    (λ e. law.0 (sym (examine_by_rules p r y) ∙ e), λ f. examine_by_rules p r y ∙ law.1 f)

-- it gets a sheet exactly when no rule is broken, and it is the steps' sheet
pub sheet_when_kept : (p : Plant) (r : Readings) (y : Candidate) (s : Sheet) → (examine p r y ≡ Ok s) ↔ (T (all_kept (examination_rules p r y)) × (sheet_of p (values_of p r) y ≡ s))
sheet_when_kept p r y s =
    let law = sheet_by_rules (examination_rules p r y) (sheet_of p (values_of p r) y) s in
    (λ e. law.0 (sym (examine_by_rules p r y) ∙ e), λ h. examine_by_rules p r y ∙ law.1 h)

-- no rule is broken exactly when the data are accepted and the candidate is permitted
pub kept_when_permitted : (p : Plant) (r : Readings) (y : Candidate) → T (all_kept (examination_rules p r y)) ↔ (T (all_kept (data_rules p r)) × T (permitted p (values_of p r) y))
unfolding examination_rules permitted
kept_when_permitted p r y = kept_append (data_rules p r) (candidate_rules p (values_of p r) y)

-- ---- candidates of accepted data

pub judge_sheet : (p : Plant) (x : Concentrations) (y : Candidate) (s : Sheet) → (judge p x y ≡ Ok s) ↔ (T (permitted p x y) × (sheet_of p x y ≡ s))
unfolding judge permitted
judge_sheet p x y s = sheet_by_rules (candidate_rules p x y) (sheet_of p x y) s

pub judge_refusal : (p : Plant) (x : Concentrations) (y : Candidate) (n : Refusal) → (judge p x y ≡ Err n) ↔ FirstBroken (candidate_rules p x y) n
unfolding judge
judge_refusal p x y n = refusal_by_rules (candidate_rules p x y) (sheet_of p x y) n

-- a permitted candidate of accepted data gets its sheet
pub judge_permitted : (p : Plant) (x : Concentrations) (y : Candidate) → T (permitted p x y) → judge p x y ≡ Ok (sheet_of p x y)
judge_permitted p x y t = (judge_sheet p x y (sheet_of p x y)).1 (t, refl)

-- the fraction's rules are kept; the tank's rules are kept
abbrev pub FractionKept : Plant → Concentrations → ℕ → Type 0
FractionKept p x f = T (all_kept (fraction_rules p x (reactor_of p x f)))

abbrev pub TankKept : Plant → ℕ → ℕ → Type 0
TankKept p r h = T (all_kept (tank_rules p (settling_of p r h)))

pub record Keeps (p : Plant) (x : Concentrations) (y : Candidate) : Type 0 where
  pub grid : T (on_grid p.tank y)
  pub fraction : FractionKept p x y.fraction
  pub tank : TankKept p y.return_ratio y.thickening

-- permitted splits: the grid, the fraction alone, the tank alone
pub permitted_keeps : (p : Plant) (x : Concentrations) (y : Candidate) → T (permitted p x y) ↔ Keeps p x y
unfolding permitted candidate_rules
permitted_keeps p x y = (
  λ t.
      let both = parts.0 (and_r (on_grid p.tank y) (all_kept rest) t) in
      record { grid = and_l (on_grid p.tank y) (all_kept rest) t; fraction = both.0; tank = both.1 },
  λ k. and_i (on_grid p.tank y) (all_kept rest) k.grid (parts.1 (k.fraction, k.tank)),
)
  where
    rest : List Rule
    rest = fraction_rules p x (reactor_of p x y.fraction) ++ tank_rules p (settling_of p y.return_ratio y.thickening)

    parts : T (all_kept rest) ↔ (FractionKept p x y.fraction × TankKept p y.return_ratio y.thickening)
    parts = kept_append (fraction_rules p x (reactor_of p x y.fraction)) (tank_rules p (settling_of p y.return_ratio y.thickening))
