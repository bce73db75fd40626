-- The closure gives each number its count. Assumes nothing.
use Rattle.std.proofs.Common.{rules}
use Rattle.census.specs.Tallies.{pairs}
use Rattle.rules.proofs.FromFn.{from_fn_same}
use Rattle.census.proofs.pair_counts.Goals as goal

pub returns : goal.returns
unfolding pairs
returns c = from_fn_same _ (pairs c.args.fraction c.args.tank c.args.tanks) _ (λ k y q h. search rules) _ _ 0 c.from_fn.ensures.items
