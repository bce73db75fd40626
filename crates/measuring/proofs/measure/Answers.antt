-- The number is the answer's, and the length its listing's. Assumes nothing.
use Rattle.std.proofs.Common.{refl}
use Rattle.measuring.proofs.measure.Goals as goal

pub returns-clause-value : goal.returns-clause-value
returns-clause-value c = rw (c.answer_number.ensures.value, c.length.ensures.value) refl
