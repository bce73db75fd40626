-- A header's operation is that of its whole first word. Assumes nothing.
use Rattle.std.proofs.Common.{sym, ap, ◌∙◌, arith}
use Rattle.std.proofs.lemmas.Bool.{le-leb}
use Rattle.words.specs.Bytes.{word}
use Rattle.request.specs.Frames.{longest_request}
use Rattle.compare.specs.Records.{operation_of, header_with, header_of}
use Rattle.compare.proofs.decode_header.Goals as goal

pub returns-clause-header : goal.returns-clause-header
unfolding header_with header_of
returns-clause-header c =
    let operation = sym c.in_ok-operation.was ∙ (c.from_code.ensures ∙ ap operation_of c.word.ensures) in
    rw (le-leb (word c.args.bytes.now 1) 512 (omega arith), le-leb (word c.args.bytes.now 2) longest_request (omega arith))
    (λ i. header_with (operation i) (c.word-length.ensures i) (c.word-room.ensures i))
