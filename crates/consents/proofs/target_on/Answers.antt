-- `target_on` meets its contract: the chain gives the lowest target of the terms that run. Assumes nothing.
use Rattle.std.proofs.Common.{rules, tests, ap, sym, ◌∙◌}
use Rattle.std.specs.Prelude.{Ok, None}
use Rattle.std.proofs.lemmas.Iterator.{YieldsList-from_slice, YieldsList-from_map}
use Rattle.std.proofs.lemmas.Iterator.Consumers.{YieldsList-at, YieldsList-from_filter, fold_from_yields_List}
use Rattle.rules.specs.Consent.{target_on, in_force, lower_of}
use Rattle.consents.proofs.Chains.{lowest_fold}
use Rattle.consents.proofs.target_on.Goals as goal

pub returns : goal.returns
unfolding target_on
returns c =
    rw (sym c.consent_valid.ensures ∙ c.if-not-consent_valid.false, sym c.date_valid.ensures ∙ c.if-not-date_valid.false, lowest_fold)
    (ap Ok
    (fold_from_yields_List _ lower_of None _ c.fold.ensures.ran
    (YieldsList-from_map _ (λ t. t.nitrate_target)
    (YieldsList-at c.map.ensures.source
    (YieldsList-from_filter _ (λ t. in_force t c.args.date) (YieldsList-from_slice _ cc) c.filter-running.ensures.closure (λ x r q k. search (rules, tests))))
    c.map.ensures.closure (λ x r q k. search (rules, tests)))
    (λ a x b q k. search (rules, tests))))
