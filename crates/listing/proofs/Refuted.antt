-- Pages that writing must not leave, at a refusal's listing: each differs from the definition's page at one byte. And lengths that a
-- listing does not have. Assumes nothing.
use mathlib.Core.Path.{◌≡◌, refl, ap}
use mathlib.Core.List.{List, [], ◌∷◌, ◌++◌}
use Prim.Native.Nat.{ℕ, ◌+◌}
use native.Mathlib.Omega.{arith}
use lib.ListN.{get_or, replicate}
use borrow.Author.Tests.{eqb-false}
use Rattle.std.specs.Prelude.{Ok, Err}
use Rattle.rules.specs.Answers.{refusal_number, answer_number, empty_sheet}
use Rattle.rules.specs.Listing.{text, digits, numeral, line, sheet_listing, listing, listing_length, longest_listing, writing, page_after}
use Rattle.rules.specs.declared.Refusal.{Refusal}

-- the page that writing "refused 9" leaves of n zeros
unfoldable pub nine : ℕ → List ℕ
nine n = page_after (listing (Err Refusal.Surface)) (replicate n 0)

-- nothing written where it fits, to the last byte
pub not_untouched : replicate 10 0 ≡ nine 10 → ⊥
unfolding text digits numeral line listing page_after nine
not_untouched e = eqb-false 0 114 refl (ap (λ (l : List ℕ). get_or l 0 0) e)

-- the byte after the listing changed
pub not_past_the_end : text "refused 9\n" ++ (1 ∷ []) ≡ nine 11 → ⊥
unfolding text digits numeral line listing page_after nine
not_past_the_end e = eqb-false 1 0 refl (ap (λ (l : List ℕ). get_or l 10 0) e)

-- a part written where it does not fit
pub not_in_part : text "refused 9" ≡ nine 9 → ⊥
unfolding text digits numeral line listing page_after nine
not_in_part e = eqb-false 114 0 refl (ap (λ (l : List ℕ). get_or l 0 0) e)

-- a leading zero
pub no_leading_zero : text "09" ≡ numeral 9 → ⊥
unfolding text digits numeral
no_leading_zero e = eqb-false 48 57 refl (ap (λ (l : List ℕ). get_or l 0 0) e)

-- every page refused: one of ten bytes takes "refused 9"
pub not_refused : Err Refusal.ShortPage ≡ writing (listing (Err Refusal.Surface)) (replicate 10 0) → ⊥
unfolding text digits numeral line listing writing answer_number
not_refused e = eqb-false 11 0 refl (ap answer_number e)

-- 9 and 10 exchanged
pub surface_numbered_10 : refusal_number Refusal.Surface ≡ 10 → ⊥
surface_numbered_10 e = eqb-false 9 10 refl e

-- a numeral's length by a fixed width, whatever it is: 9 and 10 have one digit and two
pub no_fixed_width : (w : ℕ) → listing_length (Err Refusal.Surface) ≡ 9 + w → listing_length (Err Refusal.Depth) ≡ 9 + w → ⊥
unfolding text digits numeral line listing
no_fixed_width w one two = absurd (omega (arith, one, two))

-- 0 taken as no digit: a sheet of zeros has fifteen of them beside its 132 bytes of labels, spaces and newlines
pub zero_has_a_digit : listing_length (Ok empty_sheet) ≡ 132 → ⊥
unfolding text digits numeral line sheet_listing listing empty_sheet
zero_has_a_digit e = eqb-false 147 132 refl e

-- the second digit of a refusal's number from 10 on left out
pub second_digit : listing_length (Err Refusal.Depth) ≡ 10 → ⊥
unfolding text digits numeral line listing
second_digit e = eqb-false 11 10 refl e

-- the last newline left out
pub last_newline : listing_length (Err Refusal.Surface) ≡ 9 → ⊥
unfolding text digits numeral line listing
last_newline e = eqb-false 10 9 refl e

-- a zero byte at the end, as of a text in C
pub no_zero_byte : listing_length (Err Refusal.Surface) ≡ 11 → ⊥
unfolding text digits numeral line listing
no_zero_byte e = eqb-false 10 11 refl e

-- a refusal taken as no listing
pub refusal_listed : listing_length (Err Refusal.Surface) ≡ 0 → ⊥
unfolding text digits numeral line listing
refusal_listed e = eqb-false 10 0 refl e

-- the longest listing's length, whatever the answer
pub not_the_longest : listing_length (Err Refusal.Surface) ≡ longest_listing → ⊥
unfolding text digits numeral line listing
not_the_longest e = eqb-false 10 432 refl e
