-- The calls for the length of a listing, whole, for every byte string: each asks as a writing call does, and lends no page. Assumes
-- nothing.
use Rattle.std.specs.Prelude.{ℕ, ◌≡◌, ◌≤◌, ◌<◌, List, [], length}
use Rattle.rules.specs.Answers.{answer_number}
use Rattle.rules.specs.Examining.{examine}
use Rattle.rules.specs.Listing.{listing_length}
use Rattle.rules.specs.Results.{Answer}
use Rattle.rules.specs.declared.Candidate.{Candidate}
use Rattle.request.specs.Frames.{candidate_words, line_words}
use Rattle.request.specs.Layout.{decode, asked_candidate, asked_split, asked_line}
use Rattle.request.specs.declared.Data.{Data}
use Rattle.putting.specs.Outcomes.{Outcome, outcome, on_data, Answering}
use Rattle.interface.specs.Calls.{ChosenFor, LineFor}

-- an answer's number, and in place of the count of bytes written the length of its listing; the page stays as it is
abbrev pub measured : Answer → List ℕ → Outcome
measured answer page = outcome (answer_number answer) page (listing_length answer)

-- of a request to examine
abbrev pub measured_at : Candidate → Data → Outcome
measured_at y x = measured (examine x.plant x.readings y) []

unfoldable pub examined_length : List ℕ → Outcome
examined_length bytes = on_data (measured_at (asked_candidate bytes)) [] (decode bytes candidate_words)

-- of a request to choose, and for a line of a works
abbrev pub ChoosingLength : List ℕ → Outcome → Type 0
ChoosingLength bytes m = Answering ChosenFor measured [] m (decode bytes 0)

abbrev pub LineLength : List ℕ → Outcome → Type 0
LineLength bytes m = Answering (LineFor (asked_split bytes) (asked_line bytes)) measured [] m (decode bytes line_words)

-- what the length of one outcome says of the writing call's own, on any page: from that length on it gives the same number and writes
-- as many bytes; on a shorter page 11, and the page stays as it was
pub record Foretold (page : List ℕ) (m o : Outcome) : Type 0 where
  pub fits : m.written ≤ length page → (o.number ≡ m.number) × (o.written ≡ m.written)
  pub short : length page < m.written → (o.number ≡ 11) × (o.page ≡ page) × (o.written ≡ 0)
