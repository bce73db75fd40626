-- Plant data and readings are accepted exactly when none of 1, 17, 2 to 4 and 14 is broken, with the readings' own values, and
-- refused with n exactly when n is the first one broken. Accepted data are in their ranges. Assumes nothing.
use mathlib.Core.Logic.{◌↔◌}
use mathlib.Core.Path.{◌≡◌, refl, ap}
use mathlib.Core.Bool.{Bool, not}
use mathlib.Core.List.{List, [], ◌∷◌, ◌++◌}
use Prim.Native.Nat.{ℕ, ◌≤◌}
use native.Mathlib.Omega.{arith}
use lib.Dec.{T}
use lib.Ieee.Fits.{and_l, and_r}
use Rattle.std.specs.Prelude.{Ok, Err}
use Rattle.rules.specs.Rules.{Rule, all_kept, verdict, FirstBroken}
use Rattle.rules.specs.PlantData.{plant_in_range}
use Rattle.rules.specs.LabReadings.{result_in_range, heads_in_range, reading_no_number, reading_value, reading_in_range}
use Rattle.rules.specs.Consent.{consent_valid}
use Rattle.rules.specs.Accepting.{values_of, reading_rules, ratio_rule, readings_rules, bulking_rule, terms_rule, rules_after_figures, data_rules, accept_by, accept}
use Rattle.rules.specs.Ranges.{Between, PlantRanges, ConcentrationRanges}
use Rattle.rules.specs.declared.Plant.{Plant}
use Rattle.rules.specs.declared.PrimarySettling.{PrimarySettling}
use Rattle.rules.specs.declared.Parameter.{Parameter}
use Rattle.rules.specs.declared.Reading.{Reading}
use Rattle.rules.specs.declared.Readings.{Readings}
use Rattle.rules.specs.declared.Concentrations.{Concentrations}
use Rattle.rules.specs.declared.Refusal.{Refusal}
use Rattle.rules.specs.Results.{Verdict}
use Rattle.rules.proofs.Tests.{within_between}
use Rattle.rules.proofs.RangeFacts.{plant_ranges}
use Rattle.rules.proofs.RuleLists.{all_kept_verdict, broken_verdict, kept_append}

-- an acceptance is not a refusal
pub refused_no : (n : Refusal) (x : Concentrations) → Err n ≡ Ok x → ⊥
refused_no n x e = cc

-- what an acceptance tells of the verdict that it was made by
by_verdict : (v : Verdict) (x y : Concentrations) → accept_by v x ≡ Ok y → (v ≡ (Ok tt)) × (x ≡ y)
unfolding accept_by
by_verdict (Ok u) x y e = (refl, cc)
by_verdict (Err n) x y e = cc

by_broken : (v : Verdict) (x : Concentrations) (n : Refusal) → accept_by v x ≡ Err n → v ≡ Err n
unfolding accept_by
by_broken (Ok u) x n e = cc
by_broken (Err m) x n e = cc

-- what any list of rules accepts breaks none of them, with the values that it was given ..
pub accepted_kept : (l : List Rule) (x y : Concentrations) → accept_by (verdict l) x ≡ Ok y → T (all_kept l) × (x ≡ y)
accepted_kept l x y e = let h = by_verdict (verdict l) x y e in ((all_kept_verdict l).1 h.0, h.1)

-- .. and what it refuses with n has n as the first that is broken, and the other way round
pub refused_broken : (l : List Rule) (x : Concentrations) (n : Refusal) → (accept_by (verdict l) x ≡ Err n) ↔ FirstBroken l n
unfolding accept_by
refused_broken l x n = (
  λ e. (broken_verdict l n).1 (by_broken (verdict l) x n e),
  λ f. ap (λ (v : Verdict). accept_by v x) ((broken_verdict l n).0 f),
)

-- what is accepted breaks none of the data's rules, and the concentrations are the readings' values
pub accepted_none_due : (p : Plant) (r : Readings) (x : Concentrations) → accept p r ≡ Ok x → T (all_kept (data_rules p r)) × (values_of p r ≡ x)
unfolding accept
accepted_none_due p r x e = accepted_kept (data_rules p r) (values_of p r) x e

-- where none of them is broken, the data are accepted
pub none_due_accepted : (p : Plant) (r : Readings) → T (all_kept (data_rules p r)) → accept p r ≡ Ok (values_of p r)
unfolding accept accept_by
none_due_accepted p r none = ap (λ (v : Verdict). accept_by v (values_of p r)) ((all_kept_verdict (data_rules p r)).0 none)

-- acceptance refuses with n exactly when n is the first of them that is due
pub data_refused_when_due : (p : Plant) (r : Readings) (n : Refusal) → (accept p r ≡ Err n) ↔ FirstBroken (data_rules p r) n
unfolding accept
data_refused_when_due p r n = refused_broken (data_rules p r) (values_of p r) n

-- ---- accepted data are in their ranges

abbrev least : Parameter → ℕ
least Parameter.Bod = 20_000
least Parameter.Cod = 20_000
least Parameter.Solids = 0
least Parameter.Nitrogen = 0
least Parameter.Phosphorus = 0

abbrev most : Parameter → ℕ
most Parameter.Bod = 2_000_000
most Parameter.Cod = 4_400_000
most Parameter.Solids = 2_000_000
most Parameter.Nitrogen = 500_000
most Parameter.Phosphorus = 100_000

pub result_between : (k : Parameter) (n : ℕ) → T (result_in_range k n) → Between (least k) (most k) n
unfolding result_in_range
result_between Parameter.Bod n t = (within_between 20_000 2_000_000 n).0 t
result_between Parameter.Cod n t = (within_between 20_000 4_400_000 n).0 t
result_between Parameter.Solids n t = (within_between 0 2_000_000 n).0 t
result_between Parameter.Nitrogen n t = (within_between 0 500_000 n).0 t
result_between Parameter.Phosphorus n t = (within_between 0 100_000 n).0 t

-- no result in range is larger than the largest range
pub result_most : (k : Parameter) (n : ℕ) → T (result_in_range k n) → n ≤ 4_400_000
result_most Parameter.Bod n t = omega (arith, result_between Parameter.Bod n t)
result_most Parameter.Cod n t = omega (arith, result_between Parameter.Cod n t)
result_most Parameter.Solids n t = omega (arith, result_between Parameter.Solids n t)
result_most Parameter.Nitrogen n t = omega (arith, result_between Parameter.Nitrogen n t)
result_most Parameter.Phosphorus n t = omega (arith, result_between Parameter.Phosphorus n t)

-- a reading that keeps 2 and 3 has a value in range
kept_between : (q : ℕ) (s : PrimarySettling) (k : Parameter) (r : Reading) → T (all_kept (reading_rules q s k r)) → Between (least k) (most k) (reading_value q s k r)
unfolding reading_in_range
kept_between q s k r t =
    let range : T (reading_in_range q s k r) = and_l (reading_in_range q s k r) Bool.true (and_r (not (reading_no_number r)) _ t) in
    result_between k (reading_value q s k r) (and_r (heads_in_range r) (result_in_range k (reading_value q s k r)) range)

pub none_due_ranges : (p : Plant) (r : Readings) → T (all_kept (data_rules p r)) → PlantRanges p × ConcentrationRanges (values_of p r)
unfolding data_rules values_of
none_due_ranges p r t =
    let later = and_r (plant_in_range p) (all_kept (rules_after_figures p r)) t in
    let both = (kept_append (readings_rules p r) (terms_rule p ∷ [])).0 (and_r (bulking_rule p).kept _ later) in
    let all = both.0 in
    let bod = (kept_append (of Parameter.Bod r.bod) (from_cod)).0 all in
    let cod = (kept_append (of Parameter.Cod r.cod) (from_solids)).0 bod.1 in
    let solids = (kept_append (of Parameter.Solids r.solids) (from_nitrogen)).0 cod.1 in
    let nitrogen = (kept_append (of Parameter.Nitrogen r.nitrogen) (from_phosphorus)).0 solids.1 in
    let phosphorus = (kept_append (of Parameter.Phosphorus r.phosphorus) (ratio)).0 nitrogen.1 in (
      (plant_ranges p).0
          (and_l (plant_in_range p) (all_kept (rules_after_figures p r)) t, and_l (bulking_rule p).kept _ later, and_l (consent_valid p.consent) Bool.true both.1),
      record {
        bod = kept_between p.flow p.primary_settling Parameter.Bod r.bod bod.0;
        cod = kept_between p.flow p.primary_settling Parameter.Cod r.cod cod.0;
        solids = kept_between p.flow p.primary_settling Parameter.Solids r.solids solids.0;
        nitrogen = kept_between p.flow p.primary_settling Parameter.Nitrogen r.nitrogen nitrogen.0;
        phosphorus = kept_between p.flow p.primary_settling Parameter.Phosphorus r.phosphorus phosphorus.0;
      },
    )
  where
    of : Parameter → Reading → List Rule
    of k x = reading_rules p.flow p.primary_settling k x

    ratio : List Rule
    ratio = ratio_rule p r ∷ []

    from_phosphorus : List Rule
    from_phosphorus = of Parameter.Phosphorus r.phosphorus ++ ratio

    from_nitrogen : List Rule
    from_nitrogen = of Parameter.Nitrogen r.nitrogen ++ from_phosphorus

    from_solids : List Rule
    from_solids = of Parameter.Solids r.solids ++ from_nitrogen

    from_cod : List Rule
    from_cod = of Parameter.Cod r.cod ++ from_solids

pub accepted_ranges : (p : Plant) (r : Readings) (x : Concentrations) → accept p r ≡ Ok x → PlantRanges p × ConcentrationRanges x
accepted_ranges p r x e =
    let h = accepted_none_due p r x e in
    rw h.1 at (none_due_ranges p r h.0)
