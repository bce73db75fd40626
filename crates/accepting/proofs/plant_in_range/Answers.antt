-- `plant_in_range` meets its contract: the chain tests every line of the table. Assumes nothing.
use Rattle.std.proofs.Common.{rules, tests, map}
use Rattle.std.proofs.lemmas.Iterator.{YieldsList-from_slice}
use Rattle.std.proofs.lemmas.Iterator.Search.{all_from_yields_List}
use Rattle.rules.specs.PlantData.{Figure, within, plant_in_range, plant_figures, figures_without_dose}
use Rattle.accepting.proofs.plant_in_range.Goals as goal

pub returns : goal.returns
unfolding plant_in_range plant_figures figures_without_dose
returns c =
    all_from_yields_List {all = map (λ (n : Figure). (n.least, n.most, n.value)) (plant_figures c.args.plant.now)} (λ n. within n.0 n.1 n.2) _ _ _ c.all.ensures.ran
    (YieldsList-from_slice _ c.iter.ensures.rest) (λ x b q k. search (rules, tests))
