-- What a call gives back, whole, for every byte string and every page: bytes put on a page with the number that goes with them, and a
-- request malformed or answered. Assumes nothing.
use Rattle.std.specs.Prelude.{ℕ, ◌≡◌, List, Result, Ok, Err, Option, [], ◌∷◌}
use Rattle.rules.specs.Answers.{refusal_number, answer_number, written_count, value_or_zero}
use Rattle.rules.specs.Listing.{listing, writing, page_after}
use Rattle.rules.specs.Results.{Answer}
use Rattle.request.specs.Frames.{fault_number}
use Rattle.request.specs.declared.Fault.{Fault}
use Rattle.request.specs.declared.Data.{Data}
use Rattle.rules.specs.declared.Refusal.{Refusal}
use Rattle.words.specs.Bytes.{number_bytes}

-- the number, the page afterwards and the number of bytes written
pub record Outcome : Type 0 where
  pub number : ℕ
  pub page : List ℕ
  pub written : ℕ

abbrev pub outcome : ℕ → List ℕ → ℕ → Outcome
outcome number page written = record { number = number; page = page; written = written }

-- the own number of what is written where it fits the page; else that of what writing refuses, 11
unfoldable pub number_of : ℕ → Result ℕ Refusal → ℕ
number_of own (Ok n) = own
number_of own (Err r) = refusal_number r

-- bytes put on a page, and the number that goes with them
unfoldable pub put_on : ℕ → List ℕ → List ℕ → Outcome
put_on own bytes page =
    let result = writing bytes page in
    outcome (number_of own result) (page_after bytes page) (written_count result)

-- a decoded request: malformed, with its number and nothing written, or what its data are answered with
unfoldable pub malformed : Fault → List ℕ → Outcome
malformed fault page = outcome (fault_number fault) page 0

unfoldable pub on_data : (Data → Outcome) → List ℕ → Result Data Fault → Outcome
on_data answer page (Err fault) = malformed fault page
on_data answer page (Ok x) = answer x

-- an answer listed on a page, its number 0 for a sheet
abbrev pub answered : Answer → List ℕ → Outcome
answered answer page = put_on (answer_number answer) (listing answer) page

-- the number that an answer gives, on a page: a target, or an index lost; 0 where there is none and where the answer is a refusal
abbrev pub value_put : Result (Option ℕ) Refusal → List ℕ → Outcome
value_put answer page = put_on (answer_number answer) (number_bytes (value_or_zero answer ∷ [])) page

-- a request whose answer is told by a property that leaves one: malformed, or an answer that keeps it, put on the page
abbrev pub Answering : {A : Type 0} → (Data → A → Type 0) → (A → List ℕ → Outcome) → List ℕ → Outcome → Result Data Fault → Type 0
Answering keeps put page o (Err fault) = o ≡ malformed fault page
Answering {A} keeps put page o (Ok x) = (a : A) × keeps x a × (o ≡ put a page)
