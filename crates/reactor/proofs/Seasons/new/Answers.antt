-- `Seasons::new` meets its contract: each of the four entries is its call's result. Assumes nothing.
use mathlib.Core.Path.{◌≡◌, refl}
use Prim.Native.Nat.{ℕ, zero, suc, ◌≤◌, ◌<◌}
use native.Mathlib.Omega.{arith}
use borrow.Author.Rules.{rules}
use lib.ListN.{length}
use Rattle.rules.specs.Sums.{values_from}
use Rattle.rules.proofs.EveryTerm.{valid_terms}
use Rattle.rules.proofs.FromFn.{from_fn_same}
use Rattle.reactor.specs.Seasons.{no_season, season_at, seasons_of}
use Rattle.reactor.proofs.Seasons.new.Goals as goal

-- each of at most four entries that is below the count is in the list
all_listed : (n size : ℕ) → n ≤ 4 → (0 < n → 0 < size) → (1 < n → 1 < size) → (2 < n → 2 < size) → (3 < n → 3 < size) → n ≤ size
all_listed zero size most at0 at1 at2 at3 = omega arith
all_listed (suc zero) size most at0 at1 at2 at3 = at0 (omega arith)
all_listed (suc (suc zero)) size most at0 at1 at2 at3 = at1 (omega arith)
all_listed (suc (suc (suc zero))) size most at0 at1 at2 at3 = at2 (omega arith)
all_listed (suc (suc (suc (suc n)))) size most at0 at1 at2 at3 = omega (arith, at3 (omega arith))

pub returns : goal.returns
unfolding seasons_of
returns c =
    let p = c.args.accepted.now.plant in
    let own = season_at p in
    let terms : c.from_fn.result ≡ values_from 0 4 own = from_fn_same _ own _ (λ i y q h. search rules) _ _ no_season c.from_fn.ensures.items in
    let most = (valid_terms p.consent c.args.accepted.now.plant_ranges.consent).most in
    record {
      value = rw (terms, c.new-3.ensures, c.from-3.ensures, c.new-2.ensures, c.from-2.ensures, c.new.ensures, c.safety_factor-factor.ensures, c.from.ensures) refl;
      listed = all_listed p.consent.count (length p.consent.terms) most (search rules) (search rules) (search rules) (search rules);
    }
