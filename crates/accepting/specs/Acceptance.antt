-- What acceptance says, of the data that it hands on. Assumes nothing.
use Rattle.std.specs.Prelude.{Result, Ok, Err}
use Rattle.rules.specs.Results.{Acceptance}
use Rattle.rules.specs.declared.Refusal.{Refusal}
use Rattle.rules.specs.declared.accepted.Accepted.{Accepted}

-- the acceptance whose concentrations accepted data carry
abbrev pub acceptance_of : Result Accepted Refusal → Acceptance
acceptance_of (Ok a) = Ok a.concentrations
acceptance_of (Err n) = Err n
