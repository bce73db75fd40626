-- `to_thousandths` meets its contract: the exponent's field and the fraction of the bits lie in one of the three
-- spans of ExactValue, and the shift by at most 40 places loses nothing. Assumes nothing.
use Rattle.std.proofs.Common.{◌≡◌, ℕ, ◌-◌, ◌*◌, ◌/◌, ◌%◌, ◌^◌, ◌≤◌, ◌<◌, bit_and, sym, ap, ◌∙◌, arith}
use Rattle.std.specs.Prelude.{Ok}
use native.Mathlib.Nat.{mul-pos, mul-le-mul}
use denote.Floats.{passes}
use lib.Bits.{and_mask}
use lib.Ieee.{binary32, to_bits, fits}
use lib.Ieee.Nearest.{closest}
use lib.Pow.{pow_pos, pow_mono, shl_exact}
use Rattle.accepting.proofs.NumberTest.{number_no_nan}
use Rattle.accepting.proofs.ExactValue.{at_low, at_middle, at_high}
use Rattle.accepting.proofs.to_thousandths.Goals as goal

-- the shift of 1 or 2 by up to 40 places is exact
shifted : (parts k : ℕ) → parts ≤ 2 → 110 ≤ k → parts * 2 ^ (150 - k) % 2 ^ 64 ≡ parts * 2 ^ (150 - k)
shifted parts k h l = shl_exact {a = parts} 2 (150 - k) 64 (omega arith) (omega arith)

divisor : (parts k : ℕ) → 1 ≤ parts → parts ≤ 2 → 110 ≤ k → (0 < parts * 2 ^ (150 - k) % 2 ^ 64) × (parts * 2 ^ (150 - k) % 2 ^ 64 ≤ 2 ^ 62)
divisor parts k one two l =
    let most : parts * 2 ^ (150 - k) ≤ 2 * 2 ^ 40 = mul-le-mul two (pow_mono {i = 150 - k} {j = 40} (omega arith)) in
    rw (shifted parts k two l) (mul-pos one (pow_pos (150 - k)), omega arith)

pub float_to_bits-bits : goal.float_to_bits-bits
float_to_bits-bits c = number_no_nan c.args.x (sym c.no_number.ensures ∙ c.if-no_number.false)

pub returns-then-exponent-lt110 : goal.returns-then-exponent-lt110
returns-then-exponent-lt110 c =
    let low : bit_and (to_bits binary32 c.args.x / 2 ^ 23) 255 < 110 = omega arith in
    sym (at_low c.args.parts c.requires.least c.args.x (passes (fits binary32 c.args.x) c.well_formed.0.1) (sym c.no_number.ensures ∙ c.if-no_number.false)
    _ _ (and_mask _ 8) (and_mask (to_bits binary32 c.args.x) 23) low)

pub returns-then-exponent-gt149 : goal.returns-then-exponent-gt149
returns-then-exponent-gt149 c =
    let high : 150 ≤ bit_and (to_bits binary32 c.args.x / 2 ^ 23) 255 = omega arith in
    sym (at_high c.args.parts c.requires.least c.args.x (passes (fits binary32 c.args.x) c.well_formed.0.1) (sym c.no_number.ensures ∙ c.if-no_number.false)
    _ _ (and_mask _ 8) (and_mask (to_bits binary32 c.args.x) 23) high)

pub nearest-requires : goal.nearest-requires
nearest-requires c = divisor c.args.parts _ c.requires.least c.requires.most c.if-exponent-lt110.false

pub returns : goal.returns
returns c =
    let low = c.if-exponent-lt110.false in
    ap Ok (c.nearest.ensures ∙ (rw (c.from-significand.ensures, and_mask (to_bits binary32 c.args.x) 23) (ap (closest _) (shifted c.args.parts _ c.requires.most low))))
    ∙ sym (at_middle c.args.parts c.requires.least c.args.x (passes (fits binary32 c.args.x) c.well_formed.0.1) (sym c.no_number.ensures ∙ c.if-no_number.false)
    _ _ (and_mask _ 8) (and_mask _ 23) low c.if-exponent-gt149.false)
