-- `Basis::terms_explained`: each of the four entries is its call's result. Assumes nothing.
use borrow.Author.Rules.{rules}
use Rattle.rules.specs.Explanations.{no_term_explained}
use Rattle.rules.specs.Explaining.{term_at}
use Rattle.rules.proofs.FromFn.{from_fn_same}
use Rattle.reactor.proofs.basis.Basis.terms_explained.Goals as goal

pub returns : goal.returns
returns c =
    let known = c.args.self.now.data in
    from_fn_same _ (term_at known.plant known.concentrations c.args.reactor.now) _ (λ i y q h. search rules) _ _ no_term_explained c.from_fn.ensures.items
