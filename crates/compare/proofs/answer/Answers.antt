-- What the call says of the part that it was lent is said of the whole page. Assumes nothing.
use Rattle.std.proofs.Common.{arith}
use Rattle.compare.proofs.Answering.{answers}
use Rattle.compare.proofs.answer.Goals as goal

pub returns : goal.returns
returns c =
    let part = c.call-reply.new.page in
    answers c.args.page.now part c.args.room c.args.operation c.args.request.now _ _ (omega arith) c.call-reply.auto.page (rw (c.finish-number.ensures part) c.call-reply.ensures)
