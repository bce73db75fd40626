-- The frame of a request: its version, the only one that is answered, its words and its length, and the numbers of a malformed
-- one. Assumes nothing.
use Rattle.std.specs.Prelude.{ℕ, ◌+◌, ◌*◌, cond, List, leb, eqb, length, Result, Ok, Err}
use Rattle.words.specs.Bytes.{word}
use Rattle.rules.specs.Limits.{most_terms, most_lines}
use Rattle.request.specs.declared.Fault.{Fault}

-- the newest version
abbrev pub version : ℕ
version = 4

-- the words before the consent's, a term's, the consent's, the place of the way's, all of the data's, those of a request for the
-- target of a date, and the own words of a call that is asked of a candidate, of a works, and of a line of a works
abbrev pub plant_words : ℕ
plant_words = 30

abbrev pub term_words : ℕ
term_words = 6

abbrev pub consent_words : ℕ
consent_words = 1 + most_terms * term_words

abbrev pub way_word : ℕ
way_word = plant_words + consent_words

abbrev pub data_words : ℕ
data_words = way_word + 1

abbrev pub inquiry_words : ℕ
inquiry_words = 1 + (consent_words + 2)

abbrev pub candidate_words : ℕ
candidate_words = 3

abbrev pub works_words : ℕ
works_words = 1 + most_lines

abbrev pub line_words : ℕ
line_words = works_words + 1

-- the bytes of a request with so many own words, and of the longest
abbrev pub request_length : ℕ → ℕ
request_length own = 4 * (data_words + own)

abbrev pub longest_request : ℕ
longest_request = 4_096

-- a request of so many words: 102 by its first word, which a version of another length has too; then 101 by its length, also
-- where there is no first word
unfoldable pub frame_of : List ℕ → ℕ → Result (Unit {0}) Fault
frame_of bytes words =
    cond (leb 4 (length bytes))
    (cond (eqb (word bytes 0) version) (cond (eqb (length bytes) (4 * words)) (Ok tt) (Err Fault.Length)) (Err Fault.Version))
    (Err Fault.Length)

-- a malformed request's number
abbrev pub fault_number : Fault → ℕ
fault_number Fault.Length = 101
fault_number Fault.Version = 102
fault_number Fault.Kind = 103
