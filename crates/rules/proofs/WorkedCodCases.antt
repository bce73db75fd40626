-- The worked examples of docs/cod-way.md, to the last figure, by computation. Assumes nothing.
use mathlib.Core.Path.{refl}
use Rattle.rules.specs.CodCases.{sludge_chain, aeration_chain, readings_by_cod, figures_by_cod, CodCases}
use Rattle.rules.proofs.Computing.{steps}

pub cod_cases : CodCases
unfolding steps sludge_chain aeration_chain readings_by_cod figures_by_cod
cod_cases =
    record {
      sludge = refl;
      aeration = refl;
      cover = refl;
      removed = refl;
      sheet = refl;
      solids_sludge = refl;
      solids_aeration = refl;
      solids_cover = refl;
      solids_sheet = refl;
      held_sludge = refl;
      held_aeration = refl;
      held_cover = refl;
      held_sheet = refl;
      dosed_sludge = refl;
      dosed_sheet = refl;
    }
