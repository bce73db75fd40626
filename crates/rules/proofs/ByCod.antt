-- In the way by COD 4 is never due: its rule is kept, so that the verdict on the data is that of the other rules, and 4 is not among
-- those. Assumes nothing.
use mathlib.Core.Path.{◌≡◌, ap, sym, ◌∙◌}
use mathlib.Core.Bool.{not}
use mathlib.Core.List.{[], ◌∷◌, ◌++◌}
use lib.Dec.{T}
use Rattle.rules.specs.Rules.{rule, verdict}
use Rattle.rules.specs.PlantData.{plant_in_range}
use Rattle.rules.specs.LabReadings.{ratio_refused}
use Rattle.rules.specs.Accepting.{values_of, readings_rules_with, bulking_rule, terms_rule, data_rules, accept_by, accept}
use Rattle.rules.specs.WithoutWay.{data_rules_without_ratio, RatioNotAsked}
use Rattle.rules.specs.declared.Plant.{Plant}
use Rattle.rules.specs.declared.Way.{Way}
use Rattle.rules.specs.declared.Readings.{Readings}
use Rattle.rules.specs.declared.Refusal.{Refusal}
use Rattle.rules.specs.Results.{Verdict}
use Rattle.rules.proofs.RuleLists.{numbered, broken_verdict, first_broken_among}
use Rattle.rules.proofs.AcceptedData.{data_refused_when_due}

module _ (p : Plant) (cod : p.way ≡ Way.Cod) where
  other_rules : (r : Readings) → verdict (data_rules p r) ≡ verdict (data_rules_without_ratio p r)
  unfolding data_rules data_rules_without_ratio ratio_refused
  other_rules r =
      ap
      (λ (way : Way).
      verdict
      (rule Refusal.PlantData (plant_in_range p)
      ∷ bulking_rule p
      ∷ (readings_rules_with (rule Refusal.CodRatio (not (ratio_refused way (values_of p r).bod (values_of p r).cod)) ∷ []) p r ++ (terms_rule p ∷ []))))
      cod

  none_of_4 : (r : Readings) → T (numbered 4 (data_rules_without_ratio p r)) → ⊥
  unfolding data_rules_without_ratio
  none_of_4 r t = t

-- For all data of a plant in the way by COD: 4 is not asked.
pub ratio_not_asked : (p : Plant) → p.way ≡ Way.Cod → RatioNotAsked p
unfolding accept
ratio_not_asked p cod =
    record {
      acceptance = λ r. ap (λ (v : Verdict). accept_by v (values_of p r)) (other_rules p cod r);
      not_due = λ r e.
          let broken = (broken_verdict (data_rules p r) Refusal.CodRatio).0 ((data_refused_when_due p r Refusal.CodRatio).0 e) in
          none_of_4 p cod r
          (first_broken_among (data_rules_without_ratio p r) Refusal.CodRatio
          ((broken_verdict (data_rules_without_ratio p r) Refusal.CodRatio).1 (sym (other_rules p cod r) ∙ broken)));
    }
