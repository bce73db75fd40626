-- What is left to write: the rest's last digits, as many as end at the place, over the page as it is, give the number's numeral over
-- the page as it was.
use Rattle.std.proofs.Common.{◌≡◌, ◌-◌, ◌≤◌}
use Rattle.std.proofs.lemmas.List.Edits.{sets}
use Rattle.rules.specs.Listing.{numeral}
use Rattle.listing.proofs.Digits.{last_digits}
use Rattle.listing.proofs.put_number.Given as goal

abbrev pub invariant-loop-place : goal.invariant-loop-place
invariant-loop-place l = (l.at ≤ l.place) × (sets l.page l.at (last_digits (l.place - l.at) l.rest) ≡ sets l.fn.page l.at (numeral l.n))
