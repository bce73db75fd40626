-- The outcome is that of the call that it hands on to, and so is the bound. Assumes nothing.
use Rattle.std.specs.Prelude.{[]}
use Rattle.measuring.proofs.Pages.{length_within}
use Rattle.interface_c.proofs.pewgull_length_line.Goals as goal

pub returns-clause-value : goal.returns-clause-value
returns-clause-value c = rw (c.finish.ensures []) c.line.ensures.value

pub returns-clause-most : goal.returns-clause-most
returns-clause-most c = length_within c.line.result _ _ c.line.ensures.most (c.finish.ensures [])
