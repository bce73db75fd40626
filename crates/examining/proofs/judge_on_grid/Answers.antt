-- `judge_on_grid` meets its contract: the fraction's refusal, or what the tank is judged. Assumes nothing.
use denote.Floats.{is_true}
use Rattle.std.proofs.Common.{sym, ◌∙◌}
use Rattle.std.proofs.lemmas.Result.{err_from_is_err_and}
use Rattle.rules.specs.AgeNitrate.{on_grid}
use Rattle.examining.proofs.Verdicts.{fraction_broken, to_the_tank}
use Rattle.examining.proofs.judge_on_grid.Goals as goal

pub returns-in_err-fraction_verdict : goal.returns-in_err-fraction_verdict
returns-in_err-fraction_verdict c =
    let known = c.args.basis.now.data in
    let p = err_from_is_err_and c.from_residual.result c.from_residual.ensures.1 in
    rw (p.1, p.2)
    (fraction_broken known.plant known.concentrations c.args.candidate
    (is_true (on_grid known.plant.tank c.args.candidate) c.requires)
    c.reactor-reactor.result
    (rw c.fraction.ensures at c.reactor-reactor.ensures)
    _
    (sym c.in_err-fraction_verdict.ensures))

pub judge_tank-requires : goal.judge_tank-requires
judge_tank-requires c = rw c.fraction.ensures at c.reactor-reactor.ensures

pub returns : goal.returns
returns c =
    let known = c.args.basis.now.data in
    c.judge_tank.ensures
    ∙ to_the_tank known.plant known.concentrations c.args.candidate
    (is_true (on_grid known.plant.tank c.args.candidate) c.requires)
    c.reactor-reactor.result
    (rw c.fraction.ensures at c.reactor-reactor.ensures)
    (sym c.in_ok-fraction_verdict.ensures)
