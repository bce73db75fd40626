-- The tallies are those of the whole grid, and their pairs are the census. Assumes nothing.
use Rattle.std.proofs.Common.{arith}
use Rattle.census.proofs.Tallying.{fractions_most, tanks_most}
use Rattle.census.proofs.Products.{pairs_census}
use Rattle.census.proofs.grid_counts.Goals as goal

pub pair_counts-requires : goal.pair_counts-requires
pair_counts-requires c = (
  fractions_most _ _ _ c.fraction_tally.result c.fraction_tally.ensures,
  tanks_most _ _ _ c.tank_tally.result (omega (arith, c.largest_return_ratio-last.ensures)) (omega arith) c.tank_tally.ensures,
  rw (c.from-ratios.ensures, c.from-times.ensures) (omega (arith, c.largest_return_ratio-last.ensures)),
)

pub returns : goal.returns
returns c =
    let last = c.largest_return_ratio-last.ensures.0 in
    rw (c.pair_counts.ensures, c.from-ratios.ensures, c.from-times.ensures, last)
    (pairs_census c.args.accepted.now.plant c.args.accepted.now.concentrations _ _ c.fraction_tally.ensures (rw last at c.tank_tally.ensures))
