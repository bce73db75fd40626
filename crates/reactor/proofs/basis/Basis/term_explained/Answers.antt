-- `Basis::term_explained` meets its contract: what explains an entry's season explains its term. Assumes nothing.
use mathlib.Core.Path.{◌≡◌, sym, ◌∙◌}
use borrow.Author.Rules.{rules}
use Prim.Native.Nat.{◌≤◌, ◌<◌}
use native.Mathlib.Omega.{arith}
use lib.ListN.{get_or}
use Rattle.rules.specs.Consent.{no_term}
use Rattle.rules.specs.Explanations.{no_term_explained}
use Rattle.reactor.specs.Seasons.{no_season}
use Rattle.reactor.proofs.EverySeason.{term_past, term_before, term_explained_lem}
use Rattle.reactor.proofs.basis.Basis.term_explained.Goals as goal

pub returns-in-Some : goal.returns-in-Some
returns-in-Some c =
    let p = c.args.self.now.data.plant in
    let x = c.args.self.now.data.concentrations in
    let i = c.args.i in
    let found = c.in-Some.ensures.lookup.3 in
    let below : i < p.consent.count = omega (arith, found.0, c.terms.ensures.long) in
    let own = found.1 no_season ∙ c.terms.ensures.each i found.0 in
    c.explained.ensures
    ∙ (term_explained_lem p x c.args.reactor.now c.in-Some.season.now (get_or p.consent.terms i no_term) own ∙ sym (term_before p x c.args.reactor.now i below))

pub returns-in-None : goal.returns-in-None
returns-in-None c =
    let p = c.args.self.now.data.plant in
    let past : p.consent.count ≤ c.args.i = omega (arith, c.in-None.ensures.lookup.3, c.terms.ensures.long) in
    let zeros : c.default.result ≡ no_term_explained = search rules in
    zeros ∙ sym (term_past p c.args.self.now.data.concentrations c.args.reactor.now c.args.i past)
