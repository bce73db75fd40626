-- Document 01, "Case A and its listing" and the table cases (1) to (9), with the bottom sludge of document 02, item 7: the data,
-- and one record of all the equations. The theorem `cases` in proofs/WorkedCases.antt proves the record. Assumes nothing.
use Rattle.std.specs.Prelude.{ℕ, ◌*◌, ◌≡◌, false, Float}
use Rattle.std.specs.Float.{binary32}
use Rattle.std.specs.Float.Ieee.{round}
use Rattle.rules.specs.Consent.{no_terms}
use Rattle.rules.specs.LabReadings.{reading_value}
use Rattle.rules.specs.Accepting.{accept}
use Rattle.rules.specs.AgeNitrate.{growth, decay, safety_factor, aerobic_age, sludge_age}
use Rattle.rules.specs.ReactorSteps.{reactor_of}
use Rattle.rules.specs.SettlingSteps.{thickening_root, settling_of}
use Rattle.rules.specs.Examining.{examine}
use Rattle.rules.specs.Answers.{answer_number}
use Rattle.rules.specs.Listing.{text, listing}
use Rattle.rules.specs.declared.Plant.{Plant}
use Rattle.rules.specs.declared.Process.{Process}
use Rattle.rules.specs.declared.Way.{Way}
use Rattle.rules.specs.declared.Precipitant.{Precipitant}
use Rattle.rules.specs.declared.TankFlow.{TankFlow}
use Rattle.rules.specs.declared.Removal.{Removal}
use Rattle.rules.specs.declared.PrimarySettling.{PrimarySettling}
use Rattle.rules.specs.declared.Parameter.{Parameter}
use Rattle.rules.specs.declared.Reading.{Reading}
use Rattle.rules.specs.declared.Reading.TheVariants.{Below}
use Rattle.rules.specs.declared.Readings.{Readings}
use Rattle.rules.specs.declared.Concentrations.{Concentrations}
use Rattle.rules.specs.declared.Candidate.{Candidate}

-- Case A's plant with what other cases vary left open: Q, N3, the site's surface and depth, process, tank and sludge
-- removal
unfoldable pub variant : ℕ → ℕ → ℕ → ℕ → Process → TankFlow → Removal → Plant
variant flow target surface depth process tank removal =
    record {
      load = 1_200;
      flow = flow;
      wet_weather_flow = 600;
      design_temperature = 12;
      aeration_temperature = 20;
      sludge_volume_index = 100;
      nitrate_target = target;
      phosphorus_target = 1_000;
      carbon_peak = 120;
      nitrogen_peak = 200;
      oxygen_saturation = 9_000;
      site_surface = surface;
      site_depth = depth;
      process = process;
      precipitant = Precipitant.Iron;
      tank = tank;
      removal = removal;
      primary_settling = PrimarySettling.None;
      dose = 0;
      consent = no_terms;
      way = Way.Bod;
    }

unfoldable pub case_a : Plant
case_a = variant 5_000 10_000 1_000 5_000 Process.PreAnoxic TankFlow.Horizontal Removal.Scraper

-- the same with a vertical tank and hoppers, for case (8)
unfoldable pub hopper_plant : Plant
hopper_plant = variant 5_000 10_000 1_000 5_000 Process.PreAnoxic TankFlow.Vertical Removal.Hopper

-- the f32 nearest to a / d
unfoldable pub f32 : ℕ → ℕ → Float
f32 a d = round binary32 false a d

-- Case A's readings, with the COD open for case (9)
unfoldable pub readings_with : Float → Readings
readings_with cod =
    record {
      bod = Reading.Measured (f32 200 1);
      cod = Reading.Measured cod;
      solids = Reading.Measured (f32 150 1);
      nitrogen = Reading.Measured (f32 46 1);
      phosphorus = Reading.Measured (f32 8 1);
    }

unfoldable pub readings_a : Readings
readings_a = readings_with (f32 400 1)

-- the concentrations that those readings give, mg/m3
unfoldable pub concentrations_a : Concentrations
concentrations_a = record { bod = 200_000; cod = 400_000; solids = 150_000; nitrogen = 46_000; phosphorus = 8_000 }

-- a candidate by its fraction, return ratio and thickening time
unfoldable pub candidate : ℕ → ℕ → ℕ → Candidate
candidate f r h = record { fraction = f; return_ratio = r; thickening = h }

-- the thousandths of a reading of Case A's plant
unfoldable pub reading_a : Reading → ℕ
reading_a r = reading_value case_a.flow case_a.primary_settling Parameter.Solids r

-- V for a vertical tank with hoppers at I 100, h 20 and the return ratio r
unfoldable pub hopper_volume : ℕ → ℕ
hopper_volume r = (settling_of hopper_plant r 20).sludge_volume

pub record Cases : Type 0 where
  -- Case A, examined at 300, 75, 20: its whole listing
  pub case_a_lem :
      listing (examine case_a readings_a (candidate 300 75 20))
      ≡ text
      "fraction 300\nreturn 75\nthickening 20\nage 11733\nsludge 1000000\nmass 11733\nsolids 3779\nreactor 3105\nsurface 454\ndepth 4536\nsettling 2060\ntotal 5165\nrecirculation 2600\noxygen 99292\ntransfer 127662\n"
  pub case_1_growth : growth 12 ≡ 1_341_919
  pub case_1_decay_12 : decay 12 ≡ 811_736
  pub case_1_decay_20 : decay 20 ≡ 1_415_707
  pub case_2_at_1201 : safety_factor 1_201 ≡ 180
  pub case_2_at_3600 : safety_factor 3_600 ≡ 163
  pub case_2_at_6000 : safety_factor 6_000 ≡ 145
  pub case_3_at_180 : aerobic_age 180 12 ≡ 8_213
  pub case_3_at_145 : aerobic_age 145 12 ≡ 6_616
  pub case_4_at_200 : sludge_age 8_213 200 ≡ 10_267
  pub case_4_at_500 : sludge_age 8_213 500 ≡ 16_426
  pub case_5_at_20 : thickening_root 20 ≡ 12_599
  pub case_5_at_25 : thickening_root 25 ≡ 13_572
  pub case_6_tie_down : reading_a (Reading.Measured (f32 625 10_000)) ≡ 62
  pub case_6_tie_up : reading_a (Reading.Measured (f32 1_875 10_000)) ≡ 188
  pub case_6_below : reading_a (Below (f32 125 1_000)) ≡ 62
  pub case_7_capacity : (reactor_of case_a concentrations_a 299).removes ≡ 129 * 200_000
  pub case_7_refusal : answer_number (examine case_a readings_a (candidate 299 75 20)) ≡ 7
  pub case_8_at_91 : hopper_volume 91 ≡ 601
  pub case_8_at_92 : hopper_volume 92 ≡ 604
  pub case_8_refusal_at_91 :
      answer_number (examine hopper_plant readings_a (candidate 300 91 20)) ≡ 8
  pub case_8_refusal :
      answer_number (examine hopper_plant readings_a (candidate 300 92 20)) ≡ 8
  pub case_9_passes : answer_number (accept case_a (readings_with (f32 440 1))) ≡ 0
  pub case_9_refusal : answer_number (accept case_a (readings_with (f32 4_401 10))) ≡ 4
