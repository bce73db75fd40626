-- `Basis::every_nitrified` meets its contract: a season's test is its term's. Assumes nothing.
use Rattle.std.proofs.Common.{◌≡◌, true, false, rules, tests}
use Rattle.std.proofs.lemmas.Iterator.{YieldsList-from_slice, cases_from_all}
use Rattle.rules.specs.TermSteps.{nitrifies}
use Rattle.reactor.specs.Seasons.{season_nitrifies}
use Rattle.reactor.proofs.EverySeason.{tested, term_nitrifies}
use Rattle.reactor.proofs.basis.Basis.every_nitrified.Goals as goal

pub returns : goal.returns
returns c =
    let p = c.args.self.now.data.plant in
    let x = c.args.self.now.data.concentrations in
    let r = c.args.reactor.now in
    tested p c.terms.result.now c.terms.ensures (season_nitrifies r.age) (nitrifies p r) (term_nitrifies p x r) c.all.result
    (cases_from_all _ _ c.all.result (λ s. season_nitrifies r.age s ≡ true) (λ s. season_nitrifies r.age s ≡ false) c.all.ensures.ran (YieldsList-from_slice _ cc)
    (λ s q k. search (rules, tests)) (λ s q k. search (rules, tests)))
