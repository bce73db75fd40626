-- The outcome is that of the call that it hands on to, and so is the bound. Assumes nothing.
use Rattle.std.proofs.Common.{◌∙◌}
use Rattle.std.specs.Prelude.{[]}
use Rattle.measuring.proofs.Pages.{length_within}
use Rattle.interface_c.proofs.pewgull_length_examine.Goals as goal

pub returns-clause-value : goal.returns-clause-value
returns-clause-value c = c.finish.ensures _ ∙ c.examine.ensures.value

pub returns-clause-most : goal.returns-clause-most
returns-clause-most c = length_within c.examine.result _ _ c.examine.ensures.most (c.finish.ensures [])
