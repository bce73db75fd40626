-- `write` meets its contract: one of the two outcomes, by the test of the length. Assumes nothing.
use Rattle.std.proofs.Common.{ap, length, arith}
use Rattle.listing.proofs.Outcomes.{too_long, fits}
use Rattle.listing.proofs.write.Goals as goal

pub returns-then-page-count : goal.returns-then-page-count
returns-then-page-count c = too_long _ _ (omega (arith, ap length c.new-listing.ensures.value))

pub returns : goal.returns
returns c = fits _ _ _ _ (omega (arith, ap length c.new-listing.ensures.value)) (omega (arith, ap length c.new-listing.ensures.value)) (rw (← c.new-listing.ensures.value) c.fill.ensures)
