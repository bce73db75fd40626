-- Document 01, the listing: an answer's bytes, and what writing them on a lent page gives. Assumes nothing.
use Rattle.std.specs.Prelude.{ℕ, zero, suc, ◌+◌, ◌/◌, ◌%◌, true, false, cond, List, [], ◌∷◌, ◌++◌, leb, length, drop, Result, Ok, Err}
use Prim.Native.Char.{code}
use Prim.Native.String.{String}
use Rattle.rules.specs.Answers.{refusal_number}
use Rattle.rules.specs.declared.Sheet.{Sheet}
use Rattle.rules.specs.declared.Refusal.{Refusal}
use Rattle.rules.specs.Results.{Answer}

-- the bytes of a text of ASCII characters
unfoldable pub text : String → List ℕ
text String.[] = []
text (String.◌∷◌ c s) = code c ∷ text s

-- the decimal numeral of n in ASCII, n having at most d + 1 digits
unfoldable pub digits : ℕ → ℕ → List ℕ
digits zero n = (48 + n) ∷ []
digits (suc d) n = elim (leb n 9) [ true ↦ (48 + n) ∷ [] | false ↦ digits d (n / 10) ++ ((48 + n % 10) ∷ []) ]

-- the decimal numeral of n: its value, and no leading zero (laws in proofs/Numeral.antt)
unfoldable pub numeral : ℕ → List ℕ
numeral n = digits n n

-- a line: label, space, number, newline
unfoldable pub line : String → ℕ → List ℕ
line label n = text label ++ (32 ∷ numeral n) ++ (10 ∷ [])

-- a sheet's fifteen lines
unfoldable pub sheet_listing : Sheet → List ℕ
sheet_listing s =
    line "fraction" s.fraction
    ++ line "return" s.return_ratio
    ++ line "thickening" s.thickening
    ++ line "age" s.age
    ++ line "sludge" s.sludge
    ++ line "mass" s.mass
    ++ line "solids" s.solids
    ++ line "reactor" s.reactor
    ++ line "surface" s.surface
    ++ line "depth" s.depth
    ++ line "settling" s.settling
    ++ line "total" s.total
    ++ line "recirculation" s.recirculation
    ++ line "oxygen" s.oxygen
    ++ line "transfer" s.transfer

-- the listing of a sheet, or of a refusal
unfoldable pub listing : Answer → List ℕ
listing (Ok s) = sheet_listing s
listing (Err n) = line "refused" (refusal_number n)

-- document 02, item 13: how many bytes an answer's listing takes; and a bound for all of them, whose figures have 64 bits
-- (listing/proofs/Longest.antt)
abbrev pub listing_length : Answer → ℕ
listing_length a = length (listing a)

abbrev pub longest_listing : ℕ
longest_listing = 432

-- what writing gives: the number of bytes, or 11 where the listing is longer than the page
unfoldable pub writing : List ℕ → List ℕ → Result ℕ Refusal
writing bytes page = cond (leb (length bytes) (length page)) (Ok (length bytes)) (Err Refusal.ShortPage)

-- the page afterwards: the listing and then the page's own later bytes, or the page as it was
unfoldable pub page_after : List ℕ → List ℕ → List ℕ
page_after bytes page = cond (leb (length bytes) (length page)) (bytes ++ drop (length bytes) page) page
