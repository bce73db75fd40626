-- `copy_in` meets its contract: each turn copies one entry more, and at the end all are. Assumes nothing.
use Rattle.std.proofs.Common.{◌∙◌, arith}
use Rattle.std.proofs.lemmas.List.Edits.{paste_more}
use Rattle.words.proofs.Stores.{pasted}
use Rattle.words.proofs.copy_in.Goals as goal

pub loop-i-preserved : goal.loop-i-preserved
loop-i-preserved g c =
    let more = paste_more c.args.list.now c.args.at c.args.entries.now c.loop-i.i c.index-entries-i.result (omega arith) (omega arith) in cc

pub returns : goal.returns
returns g c = c.loop-i.invariant ∙ pasted c.args.list.now c.args.entries.now c.args.at c.loop-i.i (omega arith) (omega arith)
