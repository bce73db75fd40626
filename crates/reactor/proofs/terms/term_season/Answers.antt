-- `terms::term_season` meets its contract: a term of accepted data is valid. Assumes nothing.
use lib.Dec.{T}
use lib.ListN.{get_or}
use native.Mathlib.Omega.{arith}
use Rattle.rules.specs.Consent.{no_term, term_valid}
use Rattle.rules.proofs.EveryTerm.{term_ranges, valid_terms}
use Rattle.reactor.proofs.AgeLimits.{safety_factor_between}
use Rattle.reactor.proofs.terms.term_season.Goals as goal

pub new-requires : goal.new-requires
new-requires c =
    let p = c.args.accepted.now.plant in
    let i = c.args.i in
    let valid : T (term_valid (get_or p.consent.terms i no_term)) = (valid_terms p.consent c.args.accepted.now.plant_ranges.consent).each i (omega arith) (omega arith) in
    let known = term_ranges (get_or p.consent.terms i no_term) valid in
    (omega (arith, safety_factor_between p.load), omega (arith, known.temperature))
