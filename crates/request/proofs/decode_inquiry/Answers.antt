-- A whole request's terms, and its date after them. Assumes nothing.
use Rattle.std.proofs.Common.{refl, sym, ◌∙◌}
use Rattle.request.specs.ConsentLayout.{decode_inquiry}
use Rattle.request.proofs.decode_inquiry.Goals as goal

pub returns : goal.returns
unfolding decode_inquiry
returns c = rw (sym c.framed.ensures.frame ∙ c.in_ok-framed.was, c.consent.ensures, c.date.ensures) refl
