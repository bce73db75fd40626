-- `put_numbers` meets its contract: each turn stores one of the numbers that are left, and at the end none is. Assumes nothing.
use Rattle.std.proofs.Common.{refl, ◌∙◌, w64, arith}
use Rattle.words.specs.Bytes.{low_bytes}
use Rattle.words.proofs.Stores.{number_stored, chunks_stored}
use Rattle.words.proofs.put_numbers.Goals as goal

pub loop-i-init : goal.loop-i-init
loop-i-init c = refl

pub loop-i-preserved : goal.loop-i-preserved
loop-i-preserved c =
    number_stored w64 c.args.numbers.now c.loop-i.page _ _ _ _ _ c.loop-i.i _ (omega arith) (omega arith) (omega arith) (omega arith) (omega arith) (c.copy_from_slice.ensures.after ∙ c.to_le_bytes.ensures) (omega arith)
    ∙ c.loop-i.invariant

pub returns : goal.returns
returns c = chunks_stored (low_bytes 8) c.args.numbers.now _ _ _ c.loop-i.i (omega arith) c.loop-i.invariant
