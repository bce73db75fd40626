-- The target on the page is that of the request's terms and date. Assumes nothing.
use Rattle.std.proofs.Common.{refl, ◌∙◌}
use Rattle.interface.specs.Calls.{targeted}
use Rattle.interface.proofs.target.Goals as goal

pub returns : goal.returns
unfolding targeted
returns c = rw (← c.in_ok-inquiry.ensures) (c.put_value.ensures ∙ rw c.target_on-answer.ensures.value refl)
