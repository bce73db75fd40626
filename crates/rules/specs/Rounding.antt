-- Document 01's two roundings of a quotient, the same for any divisor. Assumes nothing.
use Rattle.std.specs.Prelude.{ℕ, ◌+◌, ◌-◌, ◌/◌}

-- "down": the largest whole number that is at most a / d
abbrev pub down : ℕ → ℕ → ℕ
down a d = a / d

-- "up": the smallest whole number that is at least a / d
abbrev pub up : ℕ → ℕ → ℕ
up a d = (a + (d - 1)) / d
