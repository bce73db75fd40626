-- What a call of the interface gives back, whole, for every byte string and every page. Assumes nothing.
use Rattle.std.specs.Prelude.{ℕ, List, Result, Ok, Err}
use Rattle.rules.specs.Answers.{answer_number}
use Rattle.rules.specs.Explanations.{explanation_figures, explained_figures}
use Rattle.rules.specs.Examining.{examine}
use Rattle.rules.specs.Choosing.{Chosen}
use Rattle.rules.specs.Explaining.{explain}
use Rattle.rules.specs.Lines.{LineAnswered}
use Rattle.rules.specs.Works.{WorksChosen, works_figures, works_sheets}
use Rattle.rules.specs.Census.{census, census_counts}
use Rattle.rules.specs.Consent.{target_on}
use Rattle.rules.specs.DayLog.{two_week_load, load_of, load_figures}
use Rattle.rules.specs.declared.Candidate.{Candidate}
use Rattle.rules.specs.declared.Split.{Split}
use Rattle.rules.specs.declared.Works.{Works}
use Rattle.rules.specs.Results.{Answer}
use Rattle.words.specs.Bytes.{number_bytes}
use Rattle.putting.specs.Outcomes.{Outcome, put_on, malformed, on_data, answered, value_put, Answering}
use Rattle.request.specs.Layout.{decode, asked_candidate, asked_split, asked_line}
use Rattle.request.specs.ConsentLayout.{decode_inquiry}
use Rattle.request.specs.Frames.{candidate_words, works_words, line_words}
use Rattle.request.specs.declared.Data.{Data}
use Rattle.rules.specs.declared.Refusal.{Refusal}
use Rattle.rules.specs.declared.Explained.{Explained}
use Rattle.rules.specs.declared.TwoWeekLoad.{TwoWeekLoad}
use Rattle.request.specs.declared.Inquiry.{Inquiry}
use Rattle.request.specs.declared.Fault.{Fault}

-- a request to examine
abbrev pub examined_at : Candidate → List ℕ → Data → Outcome
examined_at y page x = answered (examine x.plant x.readings y) page

unfoldable pub examined : List ℕ → List ℕ → Outcome
examined bytes page = on_data (examined_at (asked_candidate bytes) page) page (decode bytes candidate_words)

-- a request to choose: the listing of the answer that keeps demand 3, which is one (`chosen_once`)
abbrev pub ChosenFor : Data → Answer → Type 0
ChosenFor x a = Chosen x.plant x.readings a

abbrev pub Choosing : List ℕ → List ℕ → Outcome → Type 0
Choosing bytes page o = Answering ChosenFor answered page o (decode bytes 0)

-- a request for a works: the figures of the answer that its lines leave, which is one (`works_once`); its number 0 if it is not
-- refused
abbrev pub WorksFor : Split → Data → Result Works Refusal → Type 0
WorksFor split x w = WorksChosen x.plant x.readings split w

abbrev pub works_put : Result Works Refusal → List ℕ → Outcome
works_put w page = put_on (answer_number w) (number_bytes (works_figures (works_sheets w))) page

abbrev pub WorksAsked : List ℕ → List ℕ → Outcome → Type 0
WorksAsked bytes page o = Answering (WorksFor (asked_split bytes)) works_put page o (decode bytes works_words)

-- a request for one line of a works: the listing of that line's own answer, which is one (`line_answered_once`)
abbrev pub LineFor : Split → ℕ → Data → Answer → Type 0
LineFor split number x a = LineAnswered x.plant x.readings split number a

abbrev pub LineAsked : List ℕ → List ℕ → Outcome → Type 0
LineAsked bytes page o = Answering (LineFor (asked_split bytes) (asked_line bytes)) answered page o (decode bytes line_words)

-- an explanation's figures on a page, its number 0 if it is not refused
abbrev pub figured : Result Explained Refusal → List ℕ → Outcome
figured explanation page = put_on (answer_number explanation) (number_bytes (explained_figures (explanation_figures explanation))) page

-- a request to explain
abbrev pub explained_at : Candidate → List ℕ → Data → Outcome
explained_at y page x = figured (explain x.plant x.readings y) page

unfoldable pub explained : List ℕ → List ℕ → Outcome
explained bytes page = on_data (explained_at (asked_candidate bytes) page) page (decode bytes candidate_words)

-- the counts of a census on a page, the count for k in the eight bytes from 8 · k on; its number 0 if it is not refused
abbrev pub counts_put : Result (List ℕ) Refusal → List ℕ → Outcome
counts_put c page = put_on (answer_number c) (number_bytes (census_counts c)) page

-- a request for the census
abbrev pub census_at : List ℕ → Data → Outcome
census_at page x = counts_put (census x.plant x.readings) page

unfoldable pub censused : List ℕ → List ℕ → Outcome
censused bytes page = on_data (census_at page) page (decode bytes 0)

-- a request for the target of a date: malformed, or the target of its terms and date
abbrev pub target_of_inquiry : List ℕ → Result Inquiry Fault → Outcome
target_of_inquiry page (Err fault) = malformed fault page
target_of_inquiry page (Ok x) = value_put (target_on x.consent x.date) page

unfoldable pub targeted : List ℕ → List ℕ → Outcome
targeted bytes page = target_of_inquiry page (decode_inquiry bytes)

-- a day log: its answer's load on a page, with the number 0, or zeros with 12 or 13
abbrev pub load_put : Result TwoWeekLoad Refusal → List ℕ → Outcome
load_put answer page = put_on (answer_number answer) (number_bytes (load_figures (load_of answer))) page

unfoldable pub loaded : List ℕ → List ℕ → Outcome
loaded log page = load_put (two_week_load log) page
