-- What a call gives back, as the outcome that the definitions speak of. Assumes nothing.
use Rattle.std.specs.Prelude.{ℕ, List, Result, Ok, Err}
use Rattle.request.specs.declared.Fault.{Fault}
use Rattle.putting.specs.declared.Reply.{Reply}
use Rattle.putting.specs.Outcomes.{Outcome, outcome, malformed}

-- a reply with the page afterwards, or a malformed request
abbrev pub replied : Result Reply Fault → List ℕ → Outcome
replied (Ok reply) page = outcome reply.number page reply.written
replied (Err fault) page = malformed fault page
