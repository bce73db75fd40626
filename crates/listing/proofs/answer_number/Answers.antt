-- The number of an answer, case by case, so that a wrong one shows. Assumes nothing.
use Rattle.std.proofs.Common.{refl}
use Rattle.rules.specs.Answers.{answer_number}
use Rattle.listing.proofs.answer_number.Goals as goal

pub returns-in-Ok-clause-value : goal.returns-in-Ok-clause-value
unfolding answer_number
returns-in-Ok-clause-value g c = rw c.in-Ok.is refl

pub returns-in-Err-clause-value : goal.returns-in-Err-clause-value
unfolding answer_number
returns-in-Err-clause-value g c = rw (c.in-Err.is, c.refusal_number.ensures) refl
