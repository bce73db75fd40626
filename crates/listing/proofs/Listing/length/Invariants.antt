-- What is counted and the length of what is left of the form, filled in, make up the whole.
use Rattle.std.proofs.Common.{◌≡◌, ◌+◌, ◌*◌, ◌≤◌, length, drop}
use Rattle.std.specs.Slice.Iter.{iter_rest}
use Rattle.listing.specs.Forms.{filled}
use Rattle.listing.proofs.Listing.length.Given as goal

abbrev pub invariant-loop-b : goal.invariant-loop-b
invariant-loop-b l =
    (l.count ≤ 20 * l.b-index)
    × (l.count + length (filled (drop l.b-index l.self.form.now) (iter_rest l.figures)) ≡ length (filled l.self.form.now l.self.figures))
