-- The shares are the words after the number of lines. Assumes nothing.
use Rattle.std.proofs.Common.{rules, ◌+◌}
use Rattle.words.specs.Bytes.{word, words_from}
use Rattle.rules.specs.Sums.{values_from}
use Rattle.request.specs.Frames.{data_words}
use Rattle.rules.proofs.FromFn.{from_fn_same}
use Rattle.request.proofs.split.Goals as goal

pub returns : goal.returns
unfolding words_from values_from
returns c =
    let e = from_fn_same _ (λ i. word c.args.bytes.now (data_words + 1 + i)) _ (λ i y q k. search rules) _ _ 0 c.from_fn.ensures.items in
    cc
