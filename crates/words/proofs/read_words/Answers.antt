-- `read_words` meets its contract: each turn reads the word at its index, and at the end each word is read. Assumes nothing.
use Rattle.std.proofs.Common.{◌≡◌, ◌∙◌, length, ap, arith}
use Rattle.std.proofs.lemmas.List.Edits.{fill_by_more}
use Rattle.words.specs.Bytes.{word}
use Rattle.words.proofs.Stores.{words_by_index}
use Rattle.words.proofs.read_words.Goals as goal

pub loop-i-preserved : goal.loop-i-preserved
loop-i-preserved c =
    let read : c.word.result ≡ word c.args.bytes.now c.loop-i.i = c.word.ensures ∙ ap (word c.args.bytes.now) (omega arith) in
    rw read (fill_by_more (word c.args.bytes.now) c.loop-i.words c.loop-i.i 0 (omega arith) c.loop-i.invariant)

pub returns : goal.returns
returns c =
    let all : length c.args.words.now ≡ length c.loop-i.words = omega arith in
    rw all (words_by_index c.args.bytes.now c.loop-i.words (λ k below. c.loop-i.invariant k (omega arith)))
