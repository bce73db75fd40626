-- `stages_of` meets its contract: the verdict on the tank is asked where that on the fraction is kept. Assumes nothing.
use Rattle.std.proofs.Common.{◌≡◌, refl, ◌∙◌}
use Rattle.std.specs.Prelude.{Ok, Err}
use Rattle.std.specs.Result.{result_and}
use Rattle.rules.specs.Rules.{after}
use Rattle.rules.specs.Results.{Verdict}
use Rattle.rules.proofs.RuleLists.{verdict_append}
use Rattle.examining.proofs.stages_of.Goals as goal

one_after_other : (a b : Verdict) → result_and a b ≡ after a b
one_after_other (Ok u) b = refl
one_after_other (Err n) b = refl

pub returns : goal.returns
returns c = record {
  reactor = rw c.fraction.ensures at c.reactor-reactor.ensures;
  settling = c.settling_of-settling.ensures;
  verdict = rw (verdict_append, ← c.fraction_verdict-fraction.ensures, ← c.tank_verdict-tank.ensures) (c.and.ensures ∙ one_after_other c.fraction_verdict-fraction.result c.tank_verdict-tank.result);
}
