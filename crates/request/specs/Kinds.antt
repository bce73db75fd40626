-- A request's readings by their codes (those of the plant's kinds are in rules/specs/Kinds.antt), and what decoding gives where a
-- code may stand for no kind. Assumes nothing.
use Rattle.std.specs.Prelude.{ℕ, Bool, cond, eqb, Result, Ok, Err}
use Rattle.std.specs.Float.{binary32}
use Rattle.std.specs.Float.Ieee.{of_bits}
use Rattle.rules.specs.declared.Reading.{Reading}
use Rattle.rules.specs.declared.Reading.TheVariants.{Measured, Below, Heads}
use Rattle.request.specs.declared.Fault.{Fault}

-- the largest code of a reading's kind
abbrev pub last_reading : ℕ
last_reading = 2

-- a reading, by its kind's code and its second word: the bits of an f32 (every pattern of a NaN is the one NaN), or a head
-- count
abbrev pub reading_of : ℕ → ℕ → Reading
reading_of code w =
    cond (eqb code 0) (Measured (of_bits binary32 w))
    (cond (eqb code 1) (Below (of_bits binary32 w)) (Heads w))

-- a value where its kinds are known, else 103
abbrev pub where_known : {A : Type 0} → Bool → A → Result A Fault
where_known known x = cond known (Ok x) (Err Fault.Kind)
