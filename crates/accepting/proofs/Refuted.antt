-- Wrong ways of reading a lab result, and of accepting plant data and readings, each beside the right one on data where the two
-- part, by computation. Assumes nothing.
use mathlib.Core.Path.{◌≡◌, refl}
use mathlib.Core.Bool.{true, false, cond, ◌||◌}
use mathlib.Core.List.{List, [], ◌∷◌, ◌++◌}
use Prim.Native.Nat.{ℕ, ◌+◌, ◌*◌, ◌/◌}
use lib.Dec.{leb}
use lib.Ieee
use lib.Ieee.{Float, nan, inf, fin, binary32, of_bits, to_bits, lt, le, mul, round}
use lib.Ieee.Nearest.{closest}
use Rattle.std.specs.Prelude.{Ok, Err}
use Rattle.rules.specs.Rules.{Rule, rule, verdict}
use Rattle.rules.specs.PlantData.{figures_without_dose, plant_figures, plant_in_range}
use Rattle.rules.specs.LabReadings
use Rattle.rules.specs.LabReadings.{no_number, thousandths, reading_no_number, cod_ratio_broken}
use Rattle.rules.specs.Accepting
use Rattle.rules.specs.Consent.{consent_valid}
use Rattle.rules.specs.Accepting.{values_of, readings_rules, bulking_rule, terms_rule, accept_by, accept}
use Rattle.rules.specs.Answers.{answer_number}
use Rattle.rules.specs.OtherSteps.{with_index}
use Rattle.rules.specs.Cases.{variant, case_a, f32}
use Rattle.rules.specs.declared.Plant.{Plant}
use Rattle.rules.specs.declared.Process.{Process}
use Rattle.rules.specs.declared.TankFlow.{TankFlow}
use Rattle.rules.specs.declared.Removal.{Removal}
use Rattle.rules.specs.declared.Reading.{Reading}
use Rattle.rules.specs.declared.Readings.{Readings}
use Rattle.rules.specs.declared.Parameter.{Parameter}
use Rattle.rules.specs.declared.PrimarySettling.{PrimarySettling}
use Rattle.rules.specs.declared.Refusal.{Refusal}
use Rattle.rules.specs.Results.{Acceptance}
use Rattle.accepting.specs.Conversion.{value_of, convert}

-- ---- one f32

-- the f32 times 1000, rounded to an f32, and then to the nearest whole number
abbrev whole_of : Float → ℕ
whole_of nan = 0
whole_of (inf s) = 0
whole_of (fin s m e) = closest (m * Ieee.up e) (Ieee.down e)

pub float_product : (thousandths 1 (of_bits binary32 0x44f0_d693) ≡ 1_926_705) × (whole_of (mul binary32 (of_bits binary32 0x44f0_d693) (f32 1000 1)) ≡ 1_926_706)
unfolding thousandths of_bits mul f32
float_product = (refl, refl)

-- a tie upwards: 0.0625 is 62.5 thousandths
abbrev half_up : ℕ → ℕ → ℕ
half_up a b = (2 * a + b) / (2 * b)

pub tie_upwards : (thousandths 1 (f32 625 10_000) ≡ 62) × (half_up (1000 * 1) 16 ≡ 63)
unfolding thousandths f32 round
tie_upwards = (refl, refl)

-- below 0.001: rounded to thousandths first, its half is a tie
pub rounded_before_halving : (thousandths 2 (f32 1 1000) ≡ 1) × (closest (thousandths 1 (f32 1 1000)) 2 ≡ 0)
unfolding thousandths f32 round
rounded_before_halving = (refl, refl)

-- minus zero is the number 0; a test of the sign's bit would refuse it
pub minus_zero_lem :
    (convert 1 PrimarySettling.None Parameter.Solids (Reading.Measured (of_bits binary32 0x8000_0000)) ≡ Ok 0)
    × (leb 0x8000_0000 (to_bits binary32 (of_bits binary32 0x8000_0000)) ≡ true)
unfolding convert reading_no_number LabReadings.reading_in_range LabReadings.heads_in_range LabReadings.reading_value LabReadings.result_in_range no_number thousandths of_bits to_bits
minus_zero_lem = (refl, refl)

-- a NaN is no number; a refusal of what is below zero or at least infinity would let it through
pub nan_let_through : (no_number nan ≡ true) × ((lt nan (of_bits binary32 0) || le (of_bits binary32 0x7f80_0000) nan) ≡ false)
unfolding no_number lt le of_bits
nan_let_through = (refl, refl)

-- ---- the order of refusals

-- rule 2 on all readings, and then the rest
abbrev twos_first : Plant → Readings → Acceptance
twos_first p r =
    cond (reading_no_number r.bod || reading_no_number r.cod || reading_no_number r.solids || reading_no_number r.nitrogen || reading_no_number r.phosphorus)
    (Err Refusal.NoNumber) (accept p r)

-- rule 4 as soon as BOD and COD are converted
abbrev ratio_early : Plant → Readings → Acceptance
ratio_early p r =
    cond
    (cod_ratio_broken
    (value_of (convert p.flow p.primary_settling Parameter.Bod r.bod))
    (value_of (convert p.flow p.primary_settling Parameter.Cod r.cod)))
    (Err Refusal.CodRatio)
    (accept p r)

-- measured readings with a BOD, a COD and a nitrogen
abbrev readings_of : Float → Float → Float → Readings
readings_of bod cod nitrogen =
    record {
      bod = Reading.Measured bod;
      cod = Reading.Measured cod;
      solids = Reading.Measured (f32 150 1);
      nitrogen = Reading.Measured nitrogen;
      phosphorus = Reading.Measured (f32 8 1);
    }

-- a BOD of 1 mg/l is out of its range, and the COD after it is no number
abbrev low_bod : Readings
low_bod = readings_of (f32 1 1) nan (f32 46 1)

-- 5 × 450 is above 11 × 200, and a nitrogen of 600 mg/l is out of its range
abbrev high_nitrogen : Readings
high_nitrogen = readings_of (f32 200 1) (f32 450 1) (f32 600 1)

pub record Order : Type 0 where
  pub in_turn : accept case_a low_bod ≡ Err Refusal.ReadingRange
  pub all_twos_first : twos_first case_a low_bod ≡ Err Refusal.NoNumber
  pub ratio_last : accept case_a high_nitrogen ≡ Err Refusal.ReadingRange
  pub ratio_before_nitrogen : ratio_early case_a high_nitrogen ≡ Err Refusal.CodRatio

-- what acceptance on concrete data computes by
computing : Unit {0}
unfolding
    round
    f32
    no_number
    thousandths
    reading_no_number
    LabReadings.result_in_range
    LabReadings.heads_in_range
    LabReadings.reading_value
    LabReadings.reading_in_range
    convert
    cod_ratio_broken
    LabReadings.ratio_refused
    values_of
    Accepting.data_rules
    accept_by
    accept
    answer_number
    consent_valid
    figures_without_dose
    plant_figures
    plant_in_range
    with_index
    variant
    case_a
computing = tt

pub order : Order
unfolding computing
order = record { in_turn = refl; all_twos_first = refl; ratio_last = refl; ratio_before_nitrogen = refl }

-- ---- bulking sludge

-- acceptance by other rules
abbrev number_by : List Rule → Plant → Readings → ℕ
number_by rules p r = answer_number (accept_by (verdict rules) (values_of p r))

-- 1, and the rules after 17
abbrev figures : Plant → Rule
figures p = rule Refusal.PlantData (plant_in_range p)

abbrev rest : Plant → Readings → List Rule
rest p r = readings_rules p r ++ (terms_rule p ∷ [])

-- another largest index; 17 after the readings; 17 before 1
abbrev index_up_to : ℕ → Plant → Readings → ℕ
index_up_to most p r = number_by (figures p ∷ rule Refusal.Bulking (leb p.sludge_volume_index most) ∷ rest p r) p r

abbrev bulking_after_readings : Plant → Readings → ℕ
bulking_after_readings p r = number_by (figures p ∷ (readings_rules p r ++ (bulking_rule p ∷ terms_rule p ∷ []))) p r

abbrev bulking_before_figures : Plant → Readings → ℕ
bulking_before_figures p r = number_by (bulking_rule p ∷ figures p ∷ rest p r) p r

abbrev accepted : Plant → Readings → ℕ
accepted p r = answer_number (accept p r)

abbrev indexed : ℕ → Plant
indexed index = with_index index case_a

-- the same without a daily flow
abbrev no_flow : ℕ → Plant
no_flow index = with_index index (variant 0 10_000 1_000 5_000 Process.PreAnoxic TankFlow.Horizontal Removal.Scraper)

abbrev in_range : Readings
in_range = readings_of (f32 200 1) (f32 400 1) (f32 46 1)

abbrev no_number_bod : Readings
no_number_bod = readings_of nan (f32 400 1) (f32 46 1)

-- each with the right answer and then the wrong one: 180 refused; 200 accepted; 17 after a reading's 2 and 3; 17 before 1
pub record WrongIndex : Type 0 where
  pub refused_at_180 : (accepted (indexed 180) in_range ≡ 0) × (index_up_to 179 (indexed 180) in_range ≡ 17)
  pub accepted_at_181 : (accepted (indexed 181) in_range ≡ 17) × (index_up_to 181 (indexed 181) in_range ≡ 0)
  pub accepted_at_200 : (accepted (indexed 200) in_range ≡ 17) × (index_up_to 200 (indexed 200) in_range ≡ 0)
  pub after_2 : (accepted (indexed 181) no_number_bod ≡ 17) × (bulking_after_readings (indexed 181) no_number_bod ≡ 2)
  pub after_3 : (accepted (indexed 181) low_bod ≡ 17) × (bulking_after_readings (indexed 181) low_bod ≡ 3)
  pub before_1 : (accepted (indexed 201) in_range ≡ 1) × (bulking_before_figures (indexed 201) in_range ≡ 17)
  pub before_1_of_another : (accepted (no_flow 181) in_range ≡ 1) × (bulking_before_figures (no_flow 181) in_range ≡ 17)

pub wrong_index : WrongIndex
unfolding computing
wrong_index =
    record {
      refused_at_180 = (refl, refl);
      accepted_at_181 = (refl, refl);
      accepted_at_200 = (refl, refl);
      after_2 = (refl, refl);
      after_3 = (refl, refl);
      before_1 = (refl, refl);
      before_1_of_another = (refl, refl);
    }
