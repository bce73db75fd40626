-- The state of a sweep as bytes that the caller keeps: the data of a request, then the number asked for and the best; and what the calls
-- on it give back, whole, for every byte string and every page. Assumes nothing.
use Rattle.std.specs.Prelude.{ℕ, ◌+◌, ◌*◌, ◌≡◌, cond, ◌&&◌, List, [], ◌∷◌, ◌++◌, eqb, leb, length, take, Result, Ok, Err, Option, Some, None}
use Rattle.words.specs.Bytes.{word, word_bytes}
use Rattle.rules.specs.Answers.{refusal_number, progress_number}
use Rattle.rules.specs.Listing.{listing}
use Rattle.rules.specs.Examining.{examine}
use Rattle.rules.specs.declared.Candidate.{Candidate}
use Rattle.rules.specs.declared.Progress.{Progress}
use Rattle.request.specs.Frames.{data_words, fault_number}
use Rattle.request.specs.Layout.{decode}
use Rattle.request.specs.declared.Data.{Data}
use Rattle.putting.specs.Outcomes.{Outcome, outcome, put_on, on_data, answered}
use Rattle.sweeping.specs.Sweeps.{started, AdvancedFrom}
use Rattle.sweeping.specs.declared.Sweep.{Sweep}
use Rattle.sweeping.specs.declared.Advanced.{Advanced}
use Rattle.rules.specs.declared.Refusal.{Refusal}
use Rattle.request.specs.declared.Fault.{Fault}

-- ---- the bytes of a state

-- a state's words after the data's: the number asked for, and three of the best
abbrev pub sweep_words : ℕ
sweep_words = 4

-- a best by its three words: zeros are none yet, which no candidate of the grid has
unfoldable pub best_of : ℕ → ℕ → ℕ → Option Candidate
best_of f r h = cond (eqb f 0 && eqb r 0 && eqb h 0) None (Some (record { fraction = f; return_ratio = r; thickening = h }))

unfoldable pub best_words : Option Candidate → List ℕ
best_words None = 0 ∷ 0 ∷ 0 ∷ []
best_words (Some y) = y.fraction ∷ y.return_ratio ∷ y.thickening ∷ []

-- the sweep that a state with these data holds
abbrev pub sweep_of : List ℕ → Data → Sweep
sweep_of bytes x =
    record {
      plant = x.plant;
      readings = x.readings;
      asked = word bytes data_words;
      best = best_of (word bytes (data_words + 1)) (word bytes (data_words + 2)) (word bytes (data_words + 3));
    }

-- the state of a sweep, with the data's bytes of a request or of an earlier state
unfoldable pub state_bytes : List ℕ → Sweep → List ℕ
state_bytes bytes s = take (4 * data_words) bytes ++ word_bytes (s.asked ∷ best_words s.best)

-- ---- a start

-- the state on the page, with the number 0; or the refusal's number, and nothing written
unfoldable pub start_put : List ℕ → List ℕ → Result Sweep Refusal → Outcome
start_put bytes page (Err n) = outcome (refusal_number n) page 0
start_put bytes page (Ok s) = put_on 0 (state_bytes bytes s) page

abbrev pub start_at : List ℕ → List ℕ → Data → Outcome
start_at bytes page x = start_put bytes page (started x.plant x.readings)

unfoldable pub started_on : List ℕ → List ℕ → Outcome
started_on bytes page = on_data (start_at bytes page) page (decode bytes 0)

-- ---- an advance

-- the number, the state and the page afterwards, and the number of bytes written on the page
pub record Resumed : Type 0 where
  pub number : ℕ
  pub state : List ℕ
  pub page : List ℕ
  pub written : ℕ

abbrev pub resumed : ℕ → List ℕ → List ℕ → ℕ → Resumed
resumed number state page written = record { number = number; state = state; page = page; written = written }

abbrev pub beside : List ℕ → Outcome → Resumed
beside state o = resumed o.number state o.page o.written

-- Unfinished: 100, the state moves, and the page is as it was. Refused: its listing is put on the page, and the state is as it was.
-- Finished: the answer's listing is put on the page, and the state moves, unless the page is too short for it: then nothing does.
unfoldable pub advance_put : List ℕ → List ℕ → Sweep → Result Progress Refusal → Resumed
advance_put state page s (Ok (Progress.Unfinished b)) = resumed (progress_number (Ok (Progress.Unfinished b))) (state_bytes state s) page 0
advance_put state page s (Err n) = beside state (answered (Err n) page)
advance_put state page s (Ok (Progress.Finished a)) = beside (cond (leb (length (listing a)) (length page)) (state_bytes state s) state) (answered a page)

-- a state malformed, or an advance that keeps its contract, which is one (`advance_once`), put on state and page
abbrev pub Advancing : List ℕ → ℕ → List ℕ → Resumed → Result Data Fault → Type 0
Advancing state n page o (Err fault) = o ≡ resumed (fault_number fault) state page 0
Advancing state n page o (Ok x) = (a : Advanced) × AdvancedFrom (sweep_of state x) n a.sweep a.progress × (o ≡ advance_put state page a.sweep a.progress)

abbrev pub AdvancedOn : List ℕ → ℕ → List ℕ → Resumed → Type 0
AdvancedOn state n page o = Advancing state n page o (decode state sweep_words)

-- ---- an examination

-- what examining answers for the data of a state, whatever its number and its best
abbrev pub look_at : Candidate → List ℕ → Data → Outcome
look_at y page x = answered (examine x.plant x.readings y) page

unfoldable pub looked_on : List ℕ → Candidate → List ℕ → Outcome
looked_on state y page = on_data (look_at y page) page (decode state sweep_words)
