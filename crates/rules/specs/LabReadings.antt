-- Document 01, "Lab readings": from an f32's exact value or a head count to thousandths of mg/l, and each reading's range.
-- Assumes nothing.
use Rattle.std.specs.Prelude.{ℕ, ◌*◌, Bool, true, false, ◌&&◌, ltb}
use lib.Ieee.{Float, nan, inf, fin}
use Rattle.std.specs.Float.Ieee.Nearest.{closest}
use Rattle.rules.specs.Rounding.{up}
use Rattle.rules.specs.PlantData.{within}
use Rattle.rules.specs.declared.PrimarySettling.{PrimarySettling}
use Rattle.rules.specs.declared.Way.{Way}
use Rattle.rules.specs.declared.Parameter.{Parameter}
use Rattle.rules.specs.declared.Reading.{Reading}

-- an f32 is no number: not finite, or below zero. Minus zero is the number zero.
unfoldable pub no_number : Float → Bool
no_number nan = true
no_number (inf s) = true
no_number (fin s m e) = s && ltb 0 m

-- The thousandths nearest to 1 / parts of an f32's exact value m · 2 ^ e, ties to the even one: `closest a b` rounds
-- a / b so, and 2 ^ e is the fraction `up e / down e` of `lib.Ieee`. (0 for what is no number.)
unfoldable pub thousandths : ℕ → Float → ℕ
thousandths parts nan = 0
thousandths parts (inf s) = 0
thousandths parts (fin s m e) = closest (1000 * (m * lib.Ieee.up e)) (parts * lib.Ieee.down e)

-- Table 1: g, tenths of g per head and day
unfoldable pub per_head : Parameter → PrimarySettling → ℕ
per_head Parameter.Bod PrimarySettling.None = 600
per_head Parameter.Bod PrimarySettling.Short = 450
per_head Parameter.Bod PrimarySettling.Long = 400
per_head Parameter.Cod PrimarySettling.None = 1200
per_head Parameter.Cod PrimarySettling.Short = 900
per_head Parameter.Cod PrimarySettling.Long = 800
per_head Parameter.Solids PrimarySettling.None = 700
per_head Parameter.Solids PrimarySettling.Short = 350
per_head Parameter.Solids PrimarySettling.Long = 250
per_head Parameter.Nitrogen PrimarySettling.None = 110
per_head Parameter.Nitrogen PrimarySettling.Short = 100
per_head Parameter.Nitrogen PrimarySettling.Long = 100
per_head Parameter.Phosphorus PrimarySettling.None = 18
per_head Parameter.Phosphorus PrimarySettling.Short = 16
per_head Parameter.Phosphorus PrimarySettling.Long = 16

-- the accepted results, mg/m3: C, COD, X, N and P
unfoldable pub result_in_range : Parameter → ℕ → Bool
result_in_range Parameter.Bod n = within 20_000 2_000_000 n
result_in_range Parameter.Cod n = within 20_000 4_400_000 n
result_in_range Parameter.Solids n = within 0 2_000_000 n
result_in_range Parameter.Nitrogen n = within 0 500_000 n
result_in_range Parameter.Phosphorus n = within 0 100_000 n

-- A reading is no number by rule 2: its f32, also where it is the limit of a `Below`.
unfoldable pub reading_no_number : Reading → Bool
reading_no_number (Reading.Measured x) = no_number x
reading_no_number (Reading.Below x) = no_number x
reading_no_number (Reading.Heads n) = Bool.false

-- the head count, if the reading is one, is in its range
unfoldable pub heads_in_range : Reading → Bool
heads_in_range (Reading.Measured x) = true
heads_in_range (Reading.Below x) = true
heads_in_range (Reading.Heads n) = within 1 2_000_000 n

-- a reading's thousandths of mg/l, at the daily flow Q and the primary settling
unfoldable pub reading_value : ℕ → PrimarySettling → Parameter → Reading → ℕ
reading_value q s k (Reading.Measured x) = thousandths 1 x
reading_value q s k (Reading.Below x) = thousandths 2 x
reading_value q s k (Reading.Heads n) = up (n * per_head k s * 100) q

-- rule 3's range of a reading: its head count and its result
unfoldable pub reading_in_range : ℕ → PrimarySettling → Parameter → Reading → Bool
reading_in_range q s k r = heads_in_range r && result_in_range k (reading_value q s k r)

-- rule 4: 5 COD > 11 BOD
unfoldable pub cod_ratio_broken : ℕ → ℕ → Bool
cod_ratio_broken bod cod = ltb (11 * bod) (5 * cod)

-- it is asked in the way by BOD alone (document 02, item 12)
unfoldable pub ratio_refused : Way → ℕ → ℕ → Bool
ratio_refused Way.Bod bod cod = cod_ratio_broken bod cod
ratio_refused Way.Cod bod cod = false
