-- The steps of accepting readings, as the code takes them: one reading converted or refused, then the five gathered.
-- proofs/Conversions.antt and proofs/Gathering.antt prove that they are document 01's rules 2 to 4. Assumes nothing.
use Rattle.std.specs.Prelude.{ℕ, cond, Result, Ok, Err}
use Rattle.rules.specs.LabReadings.{result_in_range, reading_no_number, reading_in_range, reading_value, ratio_refused}
use Rattle.rules.specs.declared.Plant.{Plant}
use Rattle.rules.specs.declared.PrimarySettling.{PrimarySettling}
use Rattle.rules.specs.declared.Way.{Way}
use Rattle.rules.specs.declared.Parameter.{Parameter}
use Rattle.rules.specs.declared.Refusal.{Refusal}
use Rattle.rules.specs.declared.Reading.{Reading}
use Rattle.rules.specs.declared.Readings.{Readings}
use Rattle.rules.specs.Results.{Acceptance}
use Rattle.accepting.specs.declared.MeasurementError.{MeasurementError}

-- rule 3 on a reading's thousandths
abbrev pub judge_result : Parameter → ℕ → Result ℕ Refusal
judge_result k n = cond (result_in_range k n) (Ok n) (Err Refusal.ReadingRange)

-- the refusal of an f32 that has no thousandths: what is too large is out of every range
abbrev pub refusal_of : MeasurementError → Refusal
refusal_of MeasurementError.NoNumber = Refusal.NoNumber
refusal_of MeasurementError.TooLarge = Refusal.ReadingRange

-- the thousandths that a conversion gives; 0 where it refuses
abbrev pub value_of : Result ℕ Refusal → ℕ
value_of (Ok n) = n
value_of (Err r) = 0

-- one reading: 2, then 3, else its thousandths
unfoldable pub convert : ℕ → PrimarySettling → Parameter → Reading → Result ℕ Refusal
convert q s k r =
    cond (reading_no_number r) (Err Refusal.NoNumber)
    (cond (reading_in_range q s k r) (Ok (reading_value q s k r)) (Err Refusal.ReadingRange))

-- the five readings in turn: the first refusal, then 4, else accepted
unfoldable pub gather : Way → Result ℕ Refusal → Result ℕ Refusal → Result ℕ Refusal → Result ℕ Refusal → Result ℕ Refusal → Acceptance
gather way (Err n) cod solids nitrogen phosphorus = Err n
gather way (Ok c) (Err n) solids nitrogen phosphorus = Err n
gather way (Ok c) (Ok o) (Err n) nitrogen phosphorus = Err n
gather way (Ok c) (Ok o) (Ok x) (Err n) phosphorus = Err n
gather way (Ok c) (Ok o) (Ok x) (Ok n) (Err m) = Err m
gather way (Ok c) (Ok o) (Ok x) (Ok n) (Ok p) =
    cond (ratio_refused way c o) (Err Refusal.CodRatio)
    (Ok (record { bod = c; cod = o; solids = x; nitrogen = n; phosphorus = p }))

-- the readings of a plant
unfoldable pub accept_readings : Plant → Readings → Acceptance
accept_readings p r =
    gather p.way
    (convert p.flow p.primary_settling Parameter.Bod r.bod)
    (convert p.flow p.primary_settling Parameter.Cod r.cod)
    (convert p.flow p.primary_settling Parameter.Solids r.solids)
    (convert p.flow p.primary_settling Parameter.Nitrogen r.nitrogen)
    (convert p.flow p.primary_settling Parameter.Phosphorus r.phosphorus)
