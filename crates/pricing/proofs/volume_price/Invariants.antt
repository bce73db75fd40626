-- The metres charged by the bands passed, and their cost. Assumes nothing.
use mathlib.Core.Path.{◌≡◌}
use Rattle.pricing.specs.Bands.{charged_by, cost_by}
use Rattle.pricing.proofs.volume_price.Given as goal

abbrev pub invariant-band : goal.invariant-band
invariant-band l = (l.charged ≡ charged_by l.tariff l.volume l.k) × (l.cost ≡ cost_by l.tariff l.volume l.k)
