-- `Listing::new` meets its contract: a form filled in is the listing, and no longer than the longest. Assumes nothing.
use Rattle.std.specs.Prelude.{Ok, Err}
use Rattle.rules.specs.Listing.{text}
use Rattle.listing.proofs.Listed.{formed, sheet_labels, sheet_form, refused_form, sheet_filled, refused_filled}
use Rattle.listing.proofs.Longest.{listing_most}
use Rattle.listing.proofs.Listing.new.Goals as goal
use Rattle.listing.proofs.Listing.new.Goals.{in-Ok, in-Err}

pub returns-clause-value : goal.returns-clause-value
unfolding sheet_form refused_form formed sheet_labels text
returns-clause-value c =
    elim c.match-answer.branch [
      | in-Ok w ↦ rw (w.result-is, w.in-Ok.is, w.figures.ensures.value) (sheet_filled w.in-Ok.sheet)
      | in-Err w ↦ rw (w.result-is, w.in-Err.is, w.refusal_number.ensures) (refused_filled w.in-Err.refusal _)
    ]

pub returns-clause-most : goal.returns-clause-most
returns-clause-most c =
    elim c.match-answer.branch [
      | in-Ok w ↦ rw w.in-Ok.is (listing_most (Ok w.in-Ok.sheet) w.figures.ensures.fits)
      | in-Err w ↦ rw w.in-Err.is (listing_most (Err w.in-Err.refusal) tt)
    ]
