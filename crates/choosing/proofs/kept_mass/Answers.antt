-- The mass is kept where the verdict on the fraction is. Assumes nothing.
use Rattle.std.proofs.Common.{◌≡◌, refl, sym, ◌∙◌, ℕ}
use Rattle.std.specs.Prelude.{Ok, Err, Some}
use Rattle.std.specs.Result.{result_ok}
use Rattle.rules.specs.Results.{Verdict}
use Rattle.choosing.specs.Runs.{mass_by, kept_mass}
use Rattle.choosing.proofs.kept_mass.Goals as goal

kept : (v : Verdict) (mass : ℕ) → result_ok v ≡ Some tt → Some mass ≡ mass_by v mass
kept (Ok u) mass e = refl
kept (Err n) mass e = cc

pub returns : goal.returns
unfolding kept_mass
returns c =
    rw (← c.reactor-reactor.ensures, ← c.fraction_verdict.ensures)
    (kept c.fraction_verdict.result c.reactor-reactor.result.mass (sym c.ok.ensures.value ∙ c.in_ok-ok.was))
