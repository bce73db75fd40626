-- One fraction more is one verdict more. Assumes nothing.
use Rattle.std.proofs.Common.{◌≡◌, ◌+◌, ◌-◌, arith}
use Rattle.rules.specs.Limits.{least_fraction, most_fraction}
use Rattle.census.proofs.Tallying.{no_fraction, fraction_tallied, fractions_most}
use Rattle.census.proofs.fraction_tally.Goals as goal

pub fraction-init : goal.fraction-init
fraction-init c = no_fraction _ _

pub overflow_add-tally : goal.overflow_add-tally
overflow_add-tally c =
    let most = fractions_most _ _ (c.fraction.f - least_fraction) _ c.fraction.invariant in
    record { fits = omega (arith, most.most c.fraction_number.result c.fraction_number.ensures.1) }

pub fraction-preserved : goal.fraction-preserved
fraction-preserved c =
    fraction_tallied _ _ c.fraction.f c.fraction_number.result c.fraction.tally c.fraction.auto.f
    (rw (c.new-basis.ensures, c.new.ensures, c.from.ensures) at c.fraction_number.ensures.0)
    c.fraction_number.ensures.1
    c.fraction.invariant

pub returns : goal.returns
returns c =
    let end : c.fraction.f ≡ most_fraction + 1 = omega arith in
    rw end at c.fraction.invariant
