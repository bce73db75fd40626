-- A form filled in, byte by byte: what is left of it at an index, by the byte that stands there. Assumes nothing.
use mathlib.Core.Path.{◌≡◌}
use mathlib.Core.List.{List, [], ◌∷◌, ◌++◌}
use Prim.Native.Nat.{ℕ, ◌+◌, ◌≤◌, ◌<◌}
use native.Mathlib.Numerals.{add-one}
use lib.ListN.{length, get_or, drop, drop_of_length-le}
pub use lib.ListN.{length-append}
use lib.Seq.{drop-cons}
use borrow.Author.Tests.{eq-eqb, ne_eqb}
pub use Rattle.std.proofs.lemmas.List.{nil_from_length}
use Rattle.rules.specs.Listing.{numeral}
use Rattle.listing.specs.Forms.{filled}
pub use Rattle.listing.proofs.Page.{sets-append}

module _ (form figures : List ℕ) (i : ℕ) where
  -- at a mark: the next figure's numeral
  pub at_mark :
      i < length form → get_or form i 0 ≡ 35
      → filled (drop i form) figures ≡ numeral (get_or figures 0 0) ++ filled (drop (i + 1) form) (drop 1 figures)
  unfolding filled
  at_mark inside e = rw (drop-cons form i 0 inside, add-one i, filled, eq-eqb (get_or form i 0) 35 e)

  -- at any other byte: itself
  pub at_byte :
      i < length form → (get_or form i 0 ≡ 35 → ⊥)
      → filled (drop i form) figures ≡ get_or form i 0 ∷ filled (drop (i + 1) form) figures
  unfolding filled
  at_byte inside e = rw (drop-cons form i 0 inside, add-one i, filled, ne_eqb (get_or form i 0) 35 e)

  -- nothing at the end
  pub at_end : length form ≤ i → filled (drop i form) figures ≡ []
  unfolding filled
  at_end end = rw (drop_of_length-le form end)

-- for a loop over a form that counts or writes it
pub ruleset filling = (at_mark, at_byte, at_end, nil_from_length, length-append, sets-append)
