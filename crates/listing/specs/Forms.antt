-- Forms: a text with the mark # in each place where a figure's numeral goes. A listing is a form filled in.
-- Assumes nothing.
use Rattle.std.specs.Prelude.{ℕ, true, false, List, [], ◌∷◌, ◌++◌, eqb, get_or, drop}
use Rattle.rules.specs.Listing.{numeral}

-- a form filled in: each mark by the numeral of the next figure, and by 0 where no figure is left
unfoldable pub filled : List ℕ → List ℕ → List ℕ
filled [] figures = []
filled (b ∷ form) figures = elim (eqb b 35) [ true ↦ numeral (get_or figures 0 0) ++ filled form (drop 1 figures) | false ↦ b ∷ filled form figures ]
