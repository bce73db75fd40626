-- A record's header decoded, for every twelve bytes, and what its request is answered with. Assumes nothing.
use Rattle.std.specs.Prelude.{ℕ, ◌≤◌, ◌≡◌, cond, List, leb, eqb, take, drop, Option, Some, None}
use Rattle.words.specs.Bytes.{word}
use Rattle.request.specs.Frames.{longest_request}
use Rattle.putting.specs.Outcomes.{Outcome, outcome}
use Rattle.standing.specs.Tanks.{BuiltOn}
use Rattle.quoting.specs.Quotes.{ChosenAndPriced, examined_and_priced}
use Rattle.interface.specs.Calls.{examined, Choosing}
use Rattle.compare.specs.declared.Operation.{Operation}
use Rattle.compare.specs.declared.Header.{Header}

-- the operation that a code stands for, if any
unfoldable pub operation_of : ℕ → Option Operation
operation_of code =
    cond (eqb code 0) (Some Operation.Examine)
    (cond (eqb code 1) (Some Operation.Choose)
    (cond (eqb code 2) (Some Operation.Built)
    (cond (eqb code 3) (Some Operation.PriceChoose)
    (cond (eqb code 4) (Some Operation.PriceExamine) None))))

-- a header of this operation
unfoldable pub header_with : Option Operation → ℕ → ℕ → Option Header
header_with (Some operation) length room = Some (record { operation = operation; length = length; room = room })
header_with None length room = None

-- a header: the operation's word, then the page's length, at most 512, and the request's
unfoldable pub header_of : List ℕ → Option Header
header_of bytes =
    cond (leb (word bytes 1) 512)
    (cond (leb (word bytes 2) longest_request) (header_with (operation_of (word bytes 0)) (word bytes 2) (word bytes 1)) None)
    None

-- what the call for an operation gives
abbrev pub Call : Operation → List ℕ → List ℕ → Outcome → Type 0
Call Operation.Examine request page o = o ≡ examined request page
Call Operation.Choose request page o = Choosing request page o
Call Operation.Built request page o = BuiltOn request page o
Call Operation.PriceChoose request page o = ChosenAndPriced request page o
Call Operation.PriceExamine request page o = o ≡ examined_and_priced request page

-- a request answered on the first room bytes of a page
pub record Answers (operation : Operation) (request : List ℕ) (room : ℕ) (before after : List ℕ) (number written : ℕ) : Type 0 where
  pub called : Call operation request (take room before) (outcome number (take room after) written)
  pub others : drop room after ≡ drop room before
  pub within : written ≤ room
