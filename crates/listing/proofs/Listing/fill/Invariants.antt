-- What is left to write: the rest of the form, filled in, over the page as it is, gives the whole over the page as it was.
use Rattle.std.proofs.Common.{◌≡◌, ◌+◌, ◌≤◌, length, drop}
use Rattle.std.specs.Slice.Iter.{iter_rest}
use Rattle.std.proofs.lemmas.List.Edits.{sets}
use Rattle.listing.specs.Forms.{filled}
use Rattle.listing.proofs.Listing.fill.Given as goal

abbrev pub invariant-loop-b : goal.invariant-loop-b
invariant-loop-b l =
    (l.at + length (filled (drop l.b-index l.self.form.now) (iter_rest l.figures)) ≤ length l.page)
    × (sets l.page l.at (filled (drop l.b-index l.self.form.now) (iter_rest l.figures)) ≡ sets l.fn.page 0 (filled l.self.form.now l.self.figures))
