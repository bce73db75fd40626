-- The results that the definitions speak of by the paper's words. Assumes nothing.
use Rattle.std.specs.Prelude.{Result}
use Rattle.rules.specs.declared.Concentrations.{Concentrations}
use Rattle.rules.specs.declared.Sheet.{Sheet}
use Rattle.rules.specs.declared.Refusal.{Refusal}

-- what a list of rules says: all of them are kept, or the refusal of the first that is broken
abbrev pub Verdict : Type 0
Verdict = Result (Unit {0}) Refusal

-- what plant data and readings get: "accepted", with the concentrations, or the first refusal due
abbrev pub Acceptance : Type 0
Acceptance = Result Concentrations Refusal

-- what examining and choosing answer: a complete sheet, or one refusal
abbrev pub Answer : Type 0
Answer = Result Sheet Refusal
