-- `Basis::new` meets its contract: the seasons are those of its data. Assumes nothing.
use Rattle.reactor.proofs.basis.Basis.new.Goals as goal

pub invariant_of-result : goal.invariant_of-result
invariant_of-result c = record { seasons_at = c.new-seasons.ensures }
