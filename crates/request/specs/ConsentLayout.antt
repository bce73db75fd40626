-- The layout of a consent in a request, and of a request for the target of a date. Assumes nothing.
use Rattle.std.specs.Prelude.{ℕ, ◌+◌, ◌*◌, List, Result, Ok}
use Rattle.std.specs.Result.{result_and}
use Rattle.words.specs.Bytes.{word}
use Rattle.rules.specs.Limits.{most_terms}
use Rattle.rules.specs.Sums.{values_from}
use Rattle.request.specs.Frames.{term_words, consent_words, inquiry_words, frame_of}
use Rattle.rules.specs.declared.Date.{Date}
use Rattle.rules.specs.declared.Term.{Term}
use Rattle.rules.specs.declared.Consent.{Consent}
use Rattle.request.specs.declared.Inquiry.{Inquiry}
use Rattle.request.specs.declared.Fault.{Fault}

-- a day, a term and a consent, from a word of the request on: month and day; first and last day, temperature and target; the
-- number of terms and four terms
abbrev pub date_of : List ℕ → ℕ → Date
date_of bytes at = record { month = word bytes at; day = word bytes (at + 1) }

abbrev pub term_of : List ℕ → ℕ → Term
term_of bytes at =
    record {
      first = date_of bytes at;
      last = date_of bytes (at + 2);
      temperature = word bytes (at + 4);
      nitrate_target = word bytes (at + 5);
    }

abbrev pub consent_of : List ℕ → ℕ → Consent
consent_of bytes at =
    record {
      count = word bytes at;
      terms = values_from 0 most_terms (λ i. term_of bytes (at + 1 + term_words * i));
    }

-- the terms and the date of a request for the target in force
unfoldable pub decode_inquiry : List ℕ → Result Inquiry Fault
decode_inquiry bytes =
    result_and (frame_of bytes inquiry_words) (Ok (record { consent = consent_of bytes 1; date = date_of bytes (1 + consent_words) }))
