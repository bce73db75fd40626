-- `main` is safe: a number of bytes that writing gives is within the page. Assumes nothing.
use Rattle.std.proofs.Common.{arith}
use lib.ListN.{length-take}
use Rattle.listing.proofs.Outcomes.{bytes_within}
use Rattle.sheet.proofs.main.Goals as goal

pub slice_bounds-page-end : goal.slice_bounds-page-end
slice_bounds-page-end c = bytes_within _ _ _ _ c.in-Ok.ensures

pub slice_bounds-write_all-end : goal.slice_bounds-write_all-end
slice_bounds-write_all-end c = let h = bytes_within _ _ _ _ c.in-Ok.ensures in simp length-take (omega arith)
