-- The call on the existing tanks of a standing works: what its request holds after the data, and what it gives back, whole, for every
-- byte string and every page. Assumes nothing.
use Rattle.std.specs.Prelude.{ℕ, ◌+◌, List, Result, Option}
use Rattle.words.specs.Bytes.{word}
use Rattle.rules.specs.Existing.{BuiltAnswered}
use Rattle.rules.specs.declared.Existing.{Existing}
use Rattle.rules.specs.declared.IndexSpan.{IndexSpan}
use Rattle.request.specs.Frames.{data_words}
use Rattle.request.specs.Layout.{decode}
use Rattle.request.specs.declared.Data.{Data}
use Rattle.putting.specs.Outcomes.{Outcome, value_put, Answering}
use Rattle.rules.specs.declared.Refusal.{Refusal}

-- the call's own words: five of the tanks and two of the span
abbrev pub existing_words : ℕ
existing_words = 7

-- the existing tanks, and how they are operated
abbrev pub asked_existing : List ℕ → Existing
asked_existing bytes =
    record {
      reactor = word bytes data_words;
      surface = word bytes (data_words + 1);
      depth = word bytes (data_words + 2);
      fraction = word bytes (data_words + 3);
      thickening = word bytes (data_words + 4);
    }

-- the span of indices
abbrev pub asked_span : List ℕ → IndexSpan
asked_span bytes = record { least = word bytes (data_words + 5); most = word bytes (data_words + 6) }

-- a request: malformed, or on the page the index of the answer (0 with held and with a refusal) that its tanks and span leave, which is one (`built_once`)
abbrev pub BuiltFor : Existing → IndexSpan → Data → Result (Option ℕ) Refusal → Type 0
BuiltFor e span x a = BuiltAnswered x.plant x.readings e span a

abbrev pub BuiltOn : List ℕ → List ℕ → Outcome → Type 0
BuiltOn bytes page o = Answering (BuiltFor (asked_existing bytes) (asked_span bytes)) value_put page o (decode bytes existing_words)
