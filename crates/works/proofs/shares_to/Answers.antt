-- `shares_to` meets its contract: the chain adds up the first shares, at most eight numbers of 32 bits. Assumes nothing.
use Rattle.std.proofs.Common.{rules, arith, length, take, sym, ◌≤◌, ◌+◌, ◌∙◌}
use Rattle.std.proofs.lemmas.Iterator.{YieldsList-from_slice, YieldsList-from_map}
use Rattle.std.proofs.lemmas.Iterator.Adapters.{fits_from_length, at_most_from_yields_List}
use Rattle.std.proofs.lemmas.Iterator.Consumers.{sum_by_from_yields_List}
use Rattle.rules.specs.Limits.{most_lines}
use Rattle.works.specs.Entries.{most_shares}
use Rattle.works.proofs.Shares.{shares_sum}
use Rattle.works.proofs.shares_to.Goals as goal

few : (c : goal.After-map) → length (take c.args.lines c.args.split.now.shares) ≤ most_lines
few c = search rules

pub sum-requires-clause-fits : goal.sum-requires-clause-fits
sum-requires-clause-fits c =
    fits_from_length _ _ most_lines _ (at_most_from_yields_List (YieldsList-from_slice _ cc) (few c)) c.map.ensures.closure (omega arith) (λ x r q k. search rules)

pub returns : goal.returns
returns c =
    let run = c.sum.ensures.runs tt in
    let most = fits_from_length _ _ most_lines (most_shares + 1) (at_most_from_yields_List (YieldsList-from_slice _ cc) (few c.before)) c.map.ensures.closure (omega arith) (λ x r q k. search rules) run.0 run.0.seen run.1 in
    let sum = sum_by_from_yields_List (λ s. s) (take c.args.lines c.args.split.now.shares) _ _ c.sum.ensures.ran (YieldsList-from_map _ (λ s. s) (YieldsList-from_slice _ cc) c.map.ensures.closure (λ x r q k. search rules)) in
    (sum ∙ sym (shares_sum c.args.split.now c.args.lines (omega arith)), omega (arith, most, run.3))
