-- Tests as facts: a range by its two bounds, a table of figures by each of them. Assumes nothing.
use mathlib.Core.Logic.{◌↔◌}
use Prim.Native.Nat.{ℕ}
use mathlib.Core.List.{List, [], ◌∷◌}
use lib.Dec.{T, leb, leb→le, le→leb}
use lib.Ieee.Fits.{and_i, and_l, and_r}
use Rattle.rules.specs.PlantData.{within, Figure, all_within}
use Rattle.rules.specs.Ranges.{Between}

pub within_between : (low high n : ℕ) → T (within low high n) ↔ Between low high n
within_between low high n = (
  λ t. record { least = leb→le low n (and_l (leb low n) (leb n high) t); most = leb→le n high (and_r (leb low n) (leb n high) t) },
  λ b. and_i (leb low n) (leb n high) (le→leb low n b.least) (le→leb n high b.most),
)

abbrev pub AllBetween : List Figure → Type 0
AllBetween [] = Unit {0}
AllBetween (n ∷ rest) = Between n.least n.most n.value × AllBetween rest

pub all_between : (l : List Figure) → T (all_within l) → AllBetween l
all_between [] t = tt
all_between (n ∷ rest) t = (
  (within_between n.least n.most n.value).0 (and_l (within n.least n.most n.value) (all_within rest) t),
  all_between rest (and_r (within n.least n.most n.value) (all_within rest) t),
)

pub between_all : (l : List Figure) → AllBetween l → T (all_within l)
between_all [] b = tt
between_all (n ∷ rest) b =
    and_i (within n.least n.most n.value) (all_within rest)
    ((within_between n.least n.most n.value).1 b.0)
    (between_all rest b.1)
