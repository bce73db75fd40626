-- `handed_on` meets its contract: none yet has no key, a candidate is examined. Assumes nothing.
use mathlib.Core.Path.{sym}
use Rattle.std.proofs.lemmas.Result.{err_from_is_err_and}
use Rattle.sweeping.proofs.Advancing.{handed_none, handed_kept, handed_broken}
use Rattle.sweeping.proofs.handed_on.Goals as goal

pub returns-in_default : goal.returns-in_default
returns-in_default c = rw c.in_default.is (handed_none c.args.accepted.now)

pub returns-in_err-sheet : goal.returns-in_err-sheet
returns-in_err-sheet c =
    let p = err_from_is_err_and c.from_residual.result c.from_residual.ensures.1 in
    rw (p.1, c.in-Some.is) (handed_broken c.args.accepted.now c.in-Some.candidate _ (sym c.in_err-sheet.ensures))

pub returns : goal.returns
returns c = rw c.in-Some.is (handed_kept c.args.accepted.now c.in-Some.candidate c.in_ok-sheet.sheet (sym c.in_ok-sheet.ensures))
