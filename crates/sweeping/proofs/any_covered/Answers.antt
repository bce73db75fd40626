-- `any_covered` meets its contract: where the search ends with nothing found, no fraction of it is covered. Assumes nothing.
use Rattle.std.proofs.Common.{◌≡◌, rules, tests}
use Rattle.std.specs.Prelude.{None}
use Rattle.std.specs.Bool.{⊤}
use Rattle.choosing.specs.Runs.{kept_mass}
use Rattle.rules.proofs.RangeSearch.{any_from_Range}
use Rattle.sweeping.proofs.any_covered.Goals as goal

pub returns : goal.returns
returns c e =
    let d = c.args.basis.now.data in
    let found = any_from_Range _ _ _ c.any.result (λ f. ⊤) (λ f. kept_mass d.plant d.concentrations f ≡ None) c.any.ensures.ran (λ f q k. tt) (λ f q k. (search rules, search (rules, tests))) in
    rw e at found
