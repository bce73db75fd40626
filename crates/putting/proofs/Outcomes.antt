-- What is put on a page, by whether the page is long enough. Assumes nothing.
use Rattle.std.proofs.Common.{◌≡◌, refl, ℕ, List, ◌++◌, ◌≤◌, ◌<◌, length, drop}
use Rattle.rules.specs.Answers.{written_count}
use Rattle.listing.proofs.Outcomes.{writing_fits, page_fits, writing_long, page_long}
use Rattle.putting.specs.Outcomes.{outcome, number_of, put_on}

-- Too short a page gets 11 and is as it was, and no byte is counted as written, whatever was to be put on it; one that is long
-- enough has the bytes first and then its own later ones, and as many are counted.
pub short_page : (own : ℕ) (bytes page : List ℕ) → length page < length bytes → put_on own bytes page ≡ outcome 11 page 0
unfolding put_on number_of written_count
short_page own bytes page short = rw (writing_long bytes page short, page_long bytes page short) refl

pub long_page :
    (own : ℕ) (bytes page : List ℕ) → length bytes ≤ length page
    → put_on own bytes page ≡ outcome own (bytes ++ drop (length bytes) page) (length bytes)
unfolding put_on number_of written_count
long_page own bytes page fits = rw (writing_fits bytes page fits, page_fits bytes page fits)
