-- `Listing::fill` starts at the page's first byte, with the whole form and all figures left to write. Assumes nothing.
use Rattle.std.proofs.Common.{refl, arith}
use Rattle.listing.proofs.Listing.fill.Goals as goal

pub loop-b-init : goal.loop-b-init
loop-b-init c = rw c.iter-figures.ensures.rest (omega arith, refl)
