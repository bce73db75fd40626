-- The sheet's figures and the price, or zeros. Assumes nothing.
use Rattle.std.proofs.Common.{refl}
use Rattle.rules.specs.Answers.{empty_sheet, sheet_figures, price_sheet, price_value}
use Rattle.quoting.proofs.price_figures.Goals as goal

pub returns-in-Ok : goal.returns-in-Ok
unfolding sheet_figures price_sheet price_value
returns-in-Ok c = rw (c.in-Ok.is, c.store.ensures, c.figures.ensures.value) refl

pub returns-in_default : goal.returns-in_default
unfolding empty_sheet sheet_figures price_sheet price_value
returns-in_default c = rw c.in_default.is refl
