-- `put_together` meets its contract: the first refused answer decides, and else the works is put together from all. Assumes nothing.
use Rattle.std.proofs.Common.{◌≡◌, ◌<◌, ap, sym, subst, arith, length}
use Rattle.std.proofs.lemmas.Result.{err_from_is_err_and}
use Rattle.rules.specs.Ranges.{SheetBounds}
use Rattle.rules.specs.Answers.{empty_sheet, answer_sheet}
use Rattle.rules.specs.Sums.{values_from}
use Rattle.rules.proofs.WorksLaws.{first_decides}
use Rattle.works.specs.Entries.{answer_at}
use Rattle.works.proofs.Filled.{sums_default, sheet_default, together_none, together_next, together_all}
use Rattle.works.proofs.put_together.Goals as goal

pub line-init : goal.line-init
unfolding values_from
line-init c = together_none c.args.answers.now _ (sums_default c.default.result c.default.ensures) (rw (sheet_default c.default-2.result c.default-2.ensures))

pub added-works-requires : goal.added-works-requires
unfolding empty_sheet answer_sheet
added-works-requires c =
    let below : c.line.i < length c.args.answers.now = omega arith in
    (omega arith, c.line.invariant.bounds, subst SheetBounds (ap answer_sheet c.in_ok-sheet.was) (c.requires.1 c.line.i below))

pub line-preserved : goal.line-preserved
unfolding empty_sheet
line-preserved c =
    together_next c.args.answers.now c.line.i c.line.works c.in_ok-sheet.sheet _ (omega arith) c.in_ok-sheet.was c.added-works.ensures.0 c.added-works.ensures.1 c.line.invariant

pub returns-in_err-sheet : goal.returns-in_err-sheet
unfolding empty_sheet
returns-in_err-sheet c =
    let p = err_from_is_err_and c.from_residual.result c.from_residual.ensures.1 in
    let below : c.line.i < length c.args.answers.now = omega arith in
    rw (p.1, p.2) (sym (first_decides (answer_at c.args.answers.now) (length c.args.answers.now) c.line.i c.in_err-sheet.field-0.0 below c.line.invariant.earlier c.in_err-sheet.was))

pub returns : goal.returns
returns c =
    let all : c.line.i ≡ length c.args.answers.now = omega arith in
    rw (← all) (together_all c.args.answers.now c.line.i c.line.works c.line.invariant)
