-- As many digits as the powers of ten around a number say; 0 has one. Assumes nothing.
use Rattle.std.proofs.Common.{sym, arith}
use Rattle.rules.proofs.Numeral.{length_one, numeral_length}
use Rattle.listing.proofs.Digits.{length_by_power}
use Rattle.listing.proofs.digit_count.Goals as goal

pub returns-in-None : goal.returns-in-None
returns-in-None c = (sym (length_one c.args.n (omega (arith, c.in-None.ensures.none))), omega arith)

pub returns-in-Some : goal.returns-in-Some
returns-in-Some c =
    let digits = length_by_power c.in-Some.power c.args.n c.in-Some.ensures.power_le c.in-Some.ensures.next_power_gt in
    (sym digits, omega (arith, digits, numeral_length c.args.n c.ranges.n.fits))
