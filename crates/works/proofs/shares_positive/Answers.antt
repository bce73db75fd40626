-- `shares_positive` meets its contract: the chain tests every share up to the number of lines. Assumes nothing.
use Rattle.std.proofs.Common.{rules, tests, arith}
use Rattle.std.proofs.lemmas.Iterator.{YieldsList-from_slice}
use Rattle.std.proofs.lemmas.Iterator.Search.{all_from_yields_List}
use lib.Dec.{leb}
use lib.ListN.{take}
use Rattle.works.proofs.Shares.{positive_all}
use Rattle.works.proofs.shares_positive.Goals as goal

pub returns : goal.returns
returns c =
    rw (positive_all c.args.split.now.shares c.args.lines (omega arith))
    (all_from_yields_List {all = take c.args.lines c.args.split.now.shares} (λ s. leb 1 s) _ _ _ c.all.ensures.ran (YieldsList-from_slice _ cc) (λ x b q k. search (rules, tests)))
