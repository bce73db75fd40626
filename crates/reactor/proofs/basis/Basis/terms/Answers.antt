-- `Basis::terms` meets its contract: accepted data have at most four terms. Assumes nothing.
use native.Mathlib.Omega.{arith}
use Rattle.reactor.proofs.EverySeason.{count_most, term_seasons}
use Rattle.reactor.proofs.basis.Basis.terms.Goals as goal

pub shared_whole_as_front-result : goal.shared_whole_as_front-result
shared_whole_as_front-result c =
    let b = c.args.self.now in
    (count_most b.data.plant b.data.concentrations b.data.plant_ranges b.seasons b.seasons_at.value, omega arith)

pub returns : goal.returns
returns c =
    let b = c.args.self.now in
    term_seasons b.data.plant b.data.concentrations b.data.plant_ranges b.seasons b.seasons_at.value b.seasons_at.listed
