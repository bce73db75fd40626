-- The root is at least `low` and below `high`, and 2 to the power of the halvings left are the possible roots from `low` on.
-- Assumes nothing.
use Rattle.std.proofs.Common.{◌≡◌, ◌+◌, ◌*◌, ◌^◌, ◌≤◌, ◌<◌}
use Rattle.settling.proofs.cube_root.Given as goal

abbrev pub invariant-halving : goal.invariant-halving
invariant-halving l = record {
  reached : l.low * l.low * l.low ≤ l.n;
  passed : l.n < l.high * l.high * l.high;
  wide : l.high ≡ l.low + 2 ^ l.left;
  most : l.high ≤ 16_384;
}

abbrev pub decreases-halving : goal.decreases-halving
decreases-halving l = l.left
