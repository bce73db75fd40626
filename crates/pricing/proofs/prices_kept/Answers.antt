-- `prices_kept` meets its contract: the chain tests every price up to the count. Assumes nothing.
use Rattle.std.proofs.Common.{rules, tests, arith}
use Rattle.std.proofs.lemmas.Iterator.{YieldsList-from_slice}
use Rattle.std.proofs.lemmas.Iterator.Search.{all_from_yields_List}
use lib.Dec.{leb}
use lib.ListN.{take}
use Rattle.std.proofs.lemmas.List.{length-take}
use Rattle.rules.specs.Limits.{most_price}
use Rattle.rules.specs.declared.Band.{Band}
use Rattle.pricing.proofs.BandTests.{prices_all}
use Rattle.pricing.proofs.prices_kept.Goals as goal

pub returns : goal.returns
returns c =
    rw (prices_all c.args.tariff.now c.args.n (omega (arith, length-take c.args.n c.args.tariff.now.bands)))
    (all_from_yields_List {all = take c.args.n c.args.tariff.now.bands} (λ (b : Band). leb b.price most_price) _ _ _ c.all.ensures.ran (YieldsList-from_slice _ cc) (λ x b q k. search (rules, tests)))
