-- Wrong programs of the dose of external carbon, each on data where it answers otherwise than the definition, by
-- computation. Assumes nothing.
use Prim.Native.Nat.{ℕ, ◌+◌, ◌-◌, ◌*◌}
use mathlib.Core.Path.{◌≡◌, refl}
use mathlib.Core.Bool.{Bool, cond}
use lib.Dec.{leb}
use borrow.Author.Tests.{eqb-false}
use Rattle.rules.specs.Rounding.{down, up}
use Rattle.rules.specs.Rules.{verdict}
use Rattle.rules.specs.Accepting.{accept}
use Rattle.rules.specs.AgeNitrate.{removed_by_dose, removable, covered}
use Rattle.rules.specs.ReactorSteps.{reactor_of}
use Rattle.rules.specs.AerationSteps.{recirculation}
use Rattle.rules.specs.Examining.{candidate_rules}
use Rattle.rules.specs.Answers.{answer_number}
use Rattle.rules.specs.Cases.{case_a, readings_a, concentrations_a, candidate}
use Rattle.rules.specs.WithoutDose.{with_dose}
use Rattle.rules.specs.declared.Concentrations.{Concentrations}
use Rattle.rules.specs.declared.Process.{Process}
use Rattle.rules.specs.declared.Reactor.{Reactor}
use Rattle.rules.specs.declared.Sheet.{Sheet}
use Rattle.rules.proofs.Computing.{steps}
use Rattle.examining.proofs.WrongExaminers.{Differ, sheet_at}

-- Case A's concentrations with a BOD of 200.005 mg/l and a nitrogen of 46.001: at the fraction 300 K × C is 26,000,650 and
-- D 26,001, so that the cover misses by 350
abbrev short : ℕ → Concentrations
short bod = record { bod = bod; cod = 400_000; solids = 150_000; nitrogen = 46_001; phosphorus = 8_000 }

abbrev reactor : Reactor
reactor = reactor_of case_a (short 200_005) 300

-- 7, or a sheet's 0, of Case A's plant with a dose
abbrev number_with : ℕ → ℕ
number_with dose = answer_number (verdict (candidate_rules (with_dose dose case_a) (short 200_005) (candidate 300 75 20)))

abbrev seven_unless : Bool → ℕ
seven_unless covers = cond covers 0 7

-- Case A's sheet with a dose
abbrev sheet_with : ℕ → Sheet
sheet_with dose = sheet_at (with_dose dose case_a) 300 75 20

pub record WrongDoses : Type 0 where
  -- it covers by 200 × dose: a dose of 4 then helps, which removes nothing
  pub whole_dose_covers : Differ (number_with 4) 7 (seven_unless (leb (1000 * reactor.denitrified) (reactor.removes + 200 * 4)))
  -- it rounds the fifth of the dose up
  pub fifth_up : Differ (number_with 4) 7 (seven_unless (covered reactor.removes (up 4 5) reactor.denitrified))
  -- a dose of 5 does help: the cover then holds, by 650
  pub five_helps : number_with 5 ≡ 0
  -- it takes 200 × dose into the right column: an explanation would show as covered what is refused with 7
  pub column_of_whole_dose : Differ (removable reactor.removes (removed_by_dose 4)) 26_000 (down (reactor.removes + 200 * 4) 1000)
  -- it takes the saved oxygen on the whole D: too little oxygen
  pub saved_on_all : Differ (sheet_with 5_000).oxygen 99_896 (sheet_with 0).oxygen
  -- it does not hold D less the dose's part at 0: at 150,000 that part is 30,000, D 26,000
  pub not_held : Differ (sheet_with 150_000).oxygen (sheet_with 130_000).oxygen ((sheet_with 130_000).oxygen + up (100 * 29 * 5_000 * (30_000 - 26_000)) 24_000_000)
  -- it takes the dose's part off W: the recirculation moves
  pub off_nitrified : Differ (sheet_with 5_000).recirculation 2_600 (recirculation Process.PreAnoxic ((reactor_of case_a concentrations_a 300).nitrified - removed_by_dose 5_000) 10_000)
  -- it counts the dose in the sludge, half of its COD as BOD, as A 131E does above 10 mg/l
  pub in_sludge : Differ (sheet_with 20_000).sludge 1_000_000 (reactor_of case_a (short (200_000 + down 20_000 2)) 300).sludge
  -- its range ends one too late, or one too early
  pub range_late : Differ (answer_number (accept (with_dose 500_001 case_a) readings_a)) 1 0
  pub range_early : Differ (answer_number (accept (with_dose 500_000 case_a) readings_a)) 0 1

pub wrong_doses : WrongDoses
unfolding steps
wrong_doses =
    record {
      whole_dose_covers = (refl, eqb-false _ _ refl);
      fifth_up = (refl, eqb-false _ _ refl);
      five_helps = refl;
      column_of_whole_dose = (refl, eqb-false _ _ refl);
      saved_on_all = (refl, eqb-false _ _ refl);
      not_held = (refl, eqb-false _ _ refl);
      off_nitrified = (refl, eqb-false _ _ refl);
      in_sludge = (refl, eqb-false _ _ refl);
      range_late = (refl, eqb-false _ _ refl);
      range_early = (refl, eqb-false _ _ refl);
    }
