-- The terms come one after the other. Assumes nothing.
use Rattle.std.proofs.Common.{rules, ◌+◌, ◌*◌}
use Rattle.rules.specs.Consent.{no_term}
use Rattle.request.specs.Frames.{term_words}
use Rattle.request.specs.ConsentLayout.{term_of}
use Rattle.rules.proofs.FromFn.{from_fn_same}
use Rattle.request.proofs.consent.Goals as goal

pub returns : goal.returns
returns c =
    let e = from_fn_same _ (λ i. term_of c.args.bytes.now (c.args.at + 1 + term_words * i)) _ (λ i y q k. search rules) _ _ no_term c.from_fn.ensures.items in
    cc
