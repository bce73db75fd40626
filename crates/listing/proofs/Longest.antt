-- Every listing has at most 432 bytes, where a sheet's figures have 64 bits: 132 of labels, spaces and newlines, and twenty
-- digits for each figure; a refusal's is shorter. Assumes nothing.
use mathlib.Core.Path.{◌≡◌, refl}
use Prim.Native.Nat.{ℕ, ◌+◌, ◌^◌, ◌≤◌, ◌<◌}
use Prim.Native.String.{String}
use native.Mathlib.Omega.{arith}
use lib.ListN.{length, length-append}
use Rattle.std.specs.Prelude.{Ok, Err}
use Rattle.rules.specs.Answers.{refusal_number}
use Rattle.rules.specs.Listing.{text, line, sheet_listing, listing, listing_length, longest_listing}
use Rattle.rules.specs.declared.Sheet.{Sheet}
use Rattle.rules.specs.Results.{Answer}
use Rattle.rules.proofs.Numeral.{numeral_length}
use Rattle.rules.proofs.RuleOrder.{refusal_number_most}
use Rattle.listing.specs.Pages.{SheetFits}

-- a line has its label, a space, at most twenty digits and a newline
line_most : (label : String) (n k : ℕ) → length (text label) ≡ k → n < 2 ^ 64 → length (line label n) ≤ k + 22
unfolding line
line_most label n k e h = simp length-append (omega (arith, numeral_length n h))

sheet_most : (s : Sheet) → SheetFits s → length (sheet_listing s) ≤ longest_listing
unfolding sheet_listing text
sheet_most s w =
    simp length-append
    (omega (
      arith,
      line_most "fraction" s.fraction 8 refl w.fraction,
      line_most "return" s.return_ratio 6 refl w.ratio,
      line_most "thickening" s.thickening 10 refl w.thickening,
      line_most "age" s.age 3 refl w.age,
      line_most "sludge" s.sludge 6 refl w.sludge,
      line_most "mass" s.mass 4 refl w.mass,
      line_most "solids" s.solids 6 refl w.solids,
      line_most "reactor" s.reactor 7 refl w.reactor,
      line_most "surface" s.surface 7 refl w.surface,
      line_most "depth" s.depth 5 refl w.depth,
      line_most "settling" s.settling 8 refl w.settling,
      line_most "total" s.total 5 refl w.total,
      line_most "recirculation" s.recirculation 13 refl w.recirculation,
      line_most "oxygen" s.oxygen 6 refl w.oxygen,
      line_most "transfer" s.transfer 8 refl w.transfer,
    ))

-- an answer as the type holds it
abbrev pub AnswerFits : Answer → Type 0
AnswerFits (Ok s) = SheetFits s
AnswerFits (Err n) = Unit {0}

pub listing_most : (a : Answer) → AnswerFits a → listing_length a ≤ longest_listing
unfolding listing text
listing_most (Ok s) w = sheet_most s w
listing_most (Err n) w = omega (arith, line_most "refused" (refusal_number n) 7 refl (omega (arith, refusal_number_most n)))
