-- `on_grid` meets its contract: its three tests are the definition's. Assumes nothing.
use Rattle.std.proofs.Common.{◌≡◌, ℕ, true, false, sym, ◌∙◌}
use Rattle.rules.specs.AgeNitrate.{largest_return_ratio, on_grid}
use Rattle.rules.specs.Limits.{least_fraction, most_fraction, least_ratio, least_time, most_time}
use Rattle.rules.specs.PlantData.{within}
use Rattle.rules.specs.declared.TankFlow.{TankFlow}
use Rattle.rules.specs.declared.Candidate.{Candidate}
use Rattle.examining.proofs.on_grid.Goals as goal
use Rattle.examining.proofs.on_grid.Goals.{then-within, else-within}

module _ (tank : TankFlow) (y : Candidate) where
  fraction_off : within least_fraction most_fraction y.fraction ≡ false → false ≡ on_grid tank y
  unfolding on_grid
  fraction_off e = rw e

  module _ (e : within least_fraction most_fraction y.fraction ≡ true) {most : ℕ} (em : most ≡ largest_return_ratio tank) where
    ratio_off : within least_ratio most y.return_ratio ≡ false → false ≡ on_grid tank y
    unfolding on_grid
    ratio_off er = rw (e, ← em, er)

    ratio_on : within least_ratio most y.return_ratio ≡ true → within least_time most_time y.thickening ≡ on_grid tank y
    unfolding on_grid
    ratio_on er = rw (e, ← em, er)

pub returns-then-within-2 : goal.returns-then-within-2
returns-then-within-2 c =
    elim c.if-within.branch [
      | then-within w ↦
          c.within-then-within-2.ensures
          ∙ ratio_on c.args.tank c.args.candidate (sym c.within.ensures ∙ w.if-within.true) c.largest_return_ratio-most.ensures.0
          (sym w.within-then-within.ensures ∙ (sym w.value-is ∙ c.if-within-2.true))
      | else-within w ↦ cc
    ]

pub returns-else-within-2 : goal.returns-else-within-2
returns-else-within-2 c =
    elim c.if-within.branch [
      | then-within w ↦
          c.if-within-2.false
          ∙ ratio_off c.args.tank c.args.candidate (sym c.within.ensures ∙ w.if-within.true) c.largest_return_ratio-most.ensures.0
          (sym w.within-then-within.ensures ∙ (sym w.value-is ∙ c.if-within-2.false))
      | else-within w ↦ c.if-within-2.false ∙ fraction_off c.args.tank c.args.candidate (sym c.within.ensures ∙ w.if-within.false)
    ]
