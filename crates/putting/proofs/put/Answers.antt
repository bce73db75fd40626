-- What is written is the answer's listing, with the answer's number. Assumes nothing.
use Rattle.std.proofs.Common.{refl}
use Rattle.rules.specs.Answers.{written_count}
use Rattle.putting.specs.Outcomes.{put_on, number_of}
use Rattle.putting.proofs.put.Goals as goal

pub returns-in-Ok : goal.returns-in-Ok
unfolding put_on number_of written_count
returns-in-Ok c = rw (c.answer_number.ensures.value, c.write.ensures.page, ← c.write.ensures.result, c.in-Ok.is) refl
