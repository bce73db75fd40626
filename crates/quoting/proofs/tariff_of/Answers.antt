-- The bands come one after the other. Assumes nothing.
use Rattle.std.proofs.Common.{rules, ◌+◌}
use Rattle.words.specs.Bytes.{word}
use Rattle.rules.proofs.FromFn.{from_fn_same}
use Rattle.quoting.proofs.tariff_of.Goals as goal

pub returns : goal.returns
returns c =
    let e = from_fn_same _ (λ k. record { limit = word c.args.bytes.now (c.args.at + 1 + k); price = word c.args.bytes.now (c.args.at + 7 + k) }) _ (λ k y q h. search rules) _ _ (record { limit = 0; price = 0 }) c.from_fn.ensures.items in
    cc
