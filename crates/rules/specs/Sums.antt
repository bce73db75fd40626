-- Sums and lists over consecutive whole numbers. Assumes nothing.
use Rattle.std.specs.Prelude.{ℕ, zero, suc, ◌+◌, ◌-◌, List, [], ◌∷◌}

-- how many whole numbers there are from first to last
abbrev pub span : ℕ → ℕ → ℕ
span first last = last + 1 - first

-- the sum of g over the n numbers from first on: first, first + 1, ..
unfoldable pub sum_from : ℕ → ℕ → (ℕ → ℕ) → ℕ
sum_from first zero g = 0
sum_from first (suc n) g = sum_from first n g + g (first + n)

-- g of the n numbers from first on, in a list
unfoldable pub values_from : {A : Type 0} → ℕ → ℕ → (ℕ → A) → List A
values_from first zero g = []
values_from first (suc n) g = g first ∷ values_from (first + 1) n g
