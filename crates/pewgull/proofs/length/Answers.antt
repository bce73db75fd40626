-- The length is that of the answer's listing. Assumes nothing.
use Rattle.pewgull.proofs.length.Goals as goal

pub returns-clause-value : goal.returns-clause-value
returns-clause-value c = c.length.ensures.value
