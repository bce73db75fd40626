-- The number and the count follow from what was written, and so does what becomes of a page of the listing's length. Assumes nothing.
use Rattle.listing.proofs.Outcomes.{by_length}
use Rattle.rules.proofs.OutcomeLaws.{writing_outcome}
use Rattle.pewgull.proofs.write.Goals as goal

pub returns-clause-numbered : goal.returns-clause-numbered
returns-clause-numbered c = writing_outcome _ _ c.write.result c.write.ensures.result

pub returns-clause-by_length : goal.returns-clause-by_length
returns-clause-by_length c = by_length _ _ _ _ c.write.ensures
