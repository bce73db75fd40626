-- The two forms, filled in, are the listings: line by line, since a listing is its lines one after the other.
-- Assumes nothing.
use mathlib.Core.Path.{◌≡◌, refl, sym}
use mathlib.Core.List.{List, [], ◌∷◌, ◌++◌, append_assoc}
use Prim.Native.Nat.{ℕ}
use Prim.Native.String.{String}
use Rattle.std.specs.Prelude.{Ok, Err}
use Rattle.rules.specs.Answers.{refusal_number, sheet_figures}
use Rattle.rules.specs.Listing.{text, numeral, line, sheet_listing, listing}
use Rattle.rules.specs.declared.Sheet.{Sheet}
use Rattle.rules.specs.declared.Refusal.{Refusal}
use Rattle.listing.specs.Forms.{filled}

-- lines one after the other, from their labels and their figures
unfoldable lined : List String → List ℕ → List ℕ
lined [] figures = []
lined (label ∷ labels) [] = []
lined (label ∷ labels) (n ∷ figures) = text label ++ (32 ∷ (numeral n ++ (10 ∷ lined labels figures)))

line_parts : (label : String) (n : ℕ) → line label n ≡ text label ++ (32 ∷ (numeral n ++ (10 ∷ [])))
unfolding line
line_parts label n = append_assoc (text label) (32 ∷ numeral n) (10 ∷ [])

-- the form of lines with some labels: label, space, mark, newline
unfoldable pub formed : List String → List ℕ
formed [] = []
formed (label ∷ labels) = text label ++ (32 ∷ 35 ∷ 10 ∷ formed labels)

unfoldable pub sheet_labels : List String
sheet_labels =
    "fraction"
    ∷ "return"
    ∷ "thickening"
    ∷ "age"
    ∷ "sludge"
    ∷ "mass"
    ∷ "solids"
    ∷ "reactor"
    ∷ "surface"
    ∷ "depth"
    ∷ "settling"
    ∷ "total"
    ∷ "recirculation"
    ∷ "oxygen"
    ∷ "transfer"
    ∷ []

-- the two forms, as the code has them
unfoldable pub sheet_form : List ℕ
sheet_form = formed sheet_labels

unfoldable pub refused_form : List ℕ
refused_form = formed ("refused" ∷ [])

-- with a sheet's figures
sheet_lined : (s : Sheet) → sheet_listing s ≡ lined sheet_labels (sheet_figures s)
unfolding sheet_listing lined sheet_labels sheet_figures
sheet_lined s = simp (append_assoc, line_parts)

pub sheet_filled : (s : Sheet) → filled sheet_form (sheet_figures s) ≡ listing (Ok s)
unfolding filled sheet_form formed sheet_labels sheet_figures text lined listing
sheet_filled s = sym (sheet_lined s)

-- with a refusal's number first, whatever figures follow
pub refused_filled : (n : Refusal) (rest : List ℕ) → filled refused_form (refusal_number n ∷ rest) ≡ listing (Err n)
unfolding filled refused_form formed text line listing
refused_filled n rest = refl
