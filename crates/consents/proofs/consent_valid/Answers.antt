-- `consent_valid` meets its contract: the chain tests every term up to the count. Assumes nothing.
use Rattle.std.proofs.Common.{rules, tests}
use Rattle.std.proofs.lemmas.Iterator.{YieldsList-from_slice}
use Rattle.std.proofs.lemmas.Iterator.Search.{all_from_yields_List}
use borrow.Author.Tests.{le-leb}
use Rattle.rules.specs.Consent.{term_valid, consent_valid}
use Rattle.consents.proofs.Chains.{every_all}
use Rattle.consents.proofs.consent_valid.Goals as goal

pub returns-then-count-le-MOST_TERMS : goal.returns-then-count-le-MOST_TERMS
unfolding consent_valid
returns-then-count-le-MOST_TERMS c =
    rw (le-leb c.args.consent.now.count 4 c.if-count-le-MOST_TERMS.true, every_all)
    (all_from_yields_List term_valid _ _ _ c.all.ensures.ran (YieldsList-from_slice _ cc) (λ x b q k. search (rules, tests)))
