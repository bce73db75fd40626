-- `Sweep::new` meets its contract: the data's refusal, or a sweep at its start. Assumes nothing.
use mathlib.Core.Path.{refl}
use Rattle.std.proofs.lemmas.Result.{err_from_is_err_and}
use Rattle.sweeping.specs.Sweeps.{started, start_by}
use Rattle.sweeping.proofs.Sweep.new.Goals as goal

pub returns-in_err-accept : goal.returns-in_err-accept
unfolding started start_by
returns-in_err-accept c =
    let p = err_from_is_err_and c.from_residual.result c.from_residual.ensures.1 in
    rw (← c.in_err-accept.ensures.value, p.1, p.2)

pub returns : goal.returns
unfolding started start_by
returns c = rw (← c.in_ok-accept.ensures.value) refl
