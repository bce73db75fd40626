-- The outcome of converting an f32, for every f32. Assumes nothing.
use Rattle.std.specs.Prelude.{ℕ, ◌*◌, ◌^◌, Bool, false, cond, leb, Result, Ok, Err}
use lib.Ieee.{Float, nan, inf, fin}
use Rattle.rules.specs.LabReadings.{no_number, thousandths}
use Rattle.accepting.specs.declared.MeasurementError.{MeasurementError}

-- the exact value m · 2 ^ e is at or above the cut-off 2 ^ 23; 2 ^ e is the fraction `up e / down e` of `lib.Ieee`
unfoldable pub too_large : Float → Bool
too_large nan = false
too_large (inf s) = false
too_large (fin s m e) = leb (2 ^ 23 * lib.Ieee.down e) (m * lib.Ieee.up e)

-- 1 / parts of an f32 in thousandths: no number, too large, else the nearest thousandths
unfoldable pub measurement : ℕ → Float → Result ℕ MeasurementError
measurement parts x =
    cond (no_number x) (Err MeasurementError.NoNumber) (cond (too_large x) (Err MeasurementError.TooLarge) (Ok (thousandths parts x)))
