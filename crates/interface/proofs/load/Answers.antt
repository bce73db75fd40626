-- The load on the page is that of the log's answer, or zeros. Assumes nothing.
use Rattle.std.proofs.Common.{◌≡◌, ◌∙◌, refl, Result, Ok, Err}
use Rattle.std.specs.Result.{ResultUnwrapsOrElse}
use Rattle.rules.specs.DayLog.{load_of}
use Rattle.rules.specs.declared.Refusal.{Refusal}
use Rattle.rules.specs.declared.TwoWeekLoad.{TwoWeekLoad}
use Rattle.interface.specs.Calls.{loaded}
use Rattle.interface.proofs.load.Goals as goal

or_zeros : (a : Result TwoWeekLoad Refusal) (x : TwoWeekLoad) → ResultUnwrapsOrElse a (λ y. (y.sum ≡ 0) × (y.day ≡ 0)) x → x ≡ load_of a
unfolding load_of
or_zeros (Ok y) x e = e
or_zeros (Err n) x e = λ j. record { sum = e.0 j; day = e.1 j }

pub returns : goal.returns
unfolding loaded
returns c =
    c.put_figures.ensures
    ∙ rw (or_zeros c.load-answer.result c.unwrap_or_default-load.result c.unwrap_or_default-load.ensures, c.load-answer.ensures.value) refl
