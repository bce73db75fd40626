-- The limits passed rise, and the last of them. Assumes nothing.
use mathlib.Core.Path.{◌≡◌}
use mathlib.Core.Bool.{true}
use Rattle.rules.specs.Price.{limit_before, limits_rise}
use Rattle.pricing.proofs.limits_rise.Given as goal

abbrev pub invariant-band : goal.invariant-band
invariant-band l = (l.before ≡ limit_before l.tariff l.band-index) × (limits_rise l.tariff l.band-index ≡ true)
