-- The length that a call gives is the one that the writing call wants: for every request and every page, from that length on the page is
-- written, with the same number and as many bytes; a shorter one gets 11 and stays as it was. Assumes nothing.
use Rattle.std.proofs.Common.{◌≡◌, refl, ap, ◌∙◌, ℕ, List, ◌<◌, length, arith}
use Rattle.std.specs.Prelude.{◌≤◌, [], Result, Ok, Err, IfOk}
use Rattle.rules.specs.Answers.{answer_number}
use Rattle.rules.specs.Listing.{listing, longest_listing}
use Rattle.rules.specs.Examining.{examine}
use Rattle.rules.specs.Results.{Answer}
use Rattle.rules.specs.declared.Candidate.{Candidate}
use Rattle.rules.proofs.ChosenOnce.{chosen_once}
use Rattle.rules.proofs.LineOutcomes.{line_answered_once}
use Rattle.request.specs.Frames.{candidate_words, line_words}
use Rattle.request.specs.Layout.{decode, asked_candidate, asked_split, asked_line}
use Rattle.request.specs.declared.Data.{Data}
use Rattle.request.specs.declared.Fault.{Fault}
use Rattle.putting.specs.Outcomes.{Outcome, outcome, malformed, on_data, answered, Answering}
use Rattle.putting.specs.Replies.{replied}
use Rattle.putting.specs.declared.Reply.{Reply}
use Rattle.putting.proofs.Outcomes.{short_page, long_page}
use Rattle.interface.specs.Calls.{ChosenFor, Choosing, LineFor, LineAsked, examined_at, examined}
use Rattle.measuring.specs.Lengths.{measured, measured_at, examined_length, ChoosingLength, LineLength, Foretold}

-- of one answer
answer_foretold : (a : Answer) (page : List ℕ) → Foretold page (measured a []) (answered a page)
answer_foretold a page =
    record {
      fits = λ room. rw (long_page (answer_number a) (listing a) page room) (refl, refl);
      short = λ short. rw (short_page (answer_number a) (listing a) page short) (refl, refl, refl);
    }

-- of a malformed request, for which nothing is written
fault_foretold : (fault : Fault) (page : List ℕ) → Foretold page (malformed fault []) (malformed fault page)
unfolding malformed
fault_foretold fault page = record { fits = λ room. (refl, refl); short = λ (short : length page < 0). absurd (omega arith) }

-- examining
data_foretold :
    (y : Candidate) (page : List ℕ) (d : Result Data Fault) → Foretold page (on_data (measured_at y) [] d) (on_data (examined_at y page) page d)
unfolding on_data
data_foretold y page (Err fault) = fault_foretold fault page
data_foretold y page (Ok x) = answer_foretold (examine x.plant x.readings y) page

pub examined_foretold : (bytes page : List ℕ) → Foretold page (examined_length bytes) (examined bytes page)
unfolding examined_length examined
examined_foretold bytes page = data_foretold (asked_candidate bytes) page (decode bytes candidate_words)

-- where a property leaves one answer
one_foretold :
    (keeps : Data → Answer → Type 0) → ((x : Data) (a b : Answer) → keeps x a → keeps x b → a ≡ b)
    → (page : List ℕ) (m o : Outcome) (d : Result Data Fault)
    → Answering keeps measured [] m d
    → Answering keeps answered page o d
    → Foretold page m o
one_foretold keeps once page m o (Err fault) e f = rw (e, f) (fault_foretold fault page)
one_foretold keeps once page m o (Ok x) (a, k, e) (b, l, f) =
    rw (e, f ∙ ap (λ (c : Answer). answered c page) (once x b a l k)) (answer_foretold a page)

-- choosing
pub chosen_foretold : (bytes page : List ℕ) (m o : Outcome) → ChoosingLength bytes m → Choosing bytes page o → Foretold page m o
chosen_foretold bytes page m o = one_foretold ChosenFor (λ x. chosen_once x.plant x.readings) page m o (decode bytes 0)

-- a line of a works
pub line_foretold : (bytes page : List ℕ) (m o : Outcome) → LineLength bytes m → LineAsked bytes page o → Foretold page m o
line_foretold bytes page m o =
    one_foretold (LineFor (asked_split bytes) (asked_line bytes))
    (λ x. line_answered_once x.plant x.readings (asked_split bytes) (asked_line bytes))
    page
    m
    o
    (decode bytes line_words)

-- what C is given of a reply within the longest listing is within it too, and so is the 0 of a malformed request
pub length_within :
    (reply : Result Reply Fault) (number length : ℕ)
    → IfOk reply (λ r. r.written ≤ longest_listing)
    → outcome number [] length ≡ replied reply []
    → length ≤ longest_listing
unfolding malformed
length_within (Ok r) number length h e = let own : length ≡ r.written = ap (λ (o : Outcome). o.written) e in omega arith
length_within (Err fault) number length h e = let own : length ≡ 0 = ap (λ (o : Outcome). o.written) e in omega arith
