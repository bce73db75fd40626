-- Wrong programs of the pauses in aeration, each on data where it answers otherwise than the definition, by computation: Case A
-- with a nitrate target of 25 mg/l. Assumes nothing.
use Prim.Native.Nat.{ℕ, ◌-◌, ◌*◌}
use mathlib.Core.Path.{◌≡◌, refl}
use mathlib.Core.List.{[], ◌∷◌}
use borrow.Author.Tests.{eqb-false}
use Rattle.rules.specs.Rounding.{down, up}
use Rattle.rules.specs.AerationSteps.{oxygen_transfer, paused_transfer}
use Rattle.rules.specs.Consent.{no_term}
use Rattle.rules.specs.WithoutTerms.{with_consent}
use Rattle.rules.specs.declared.Plant.{Plant}
use Rattle.rules.specs.declared.Process.{Process}
use Rattle.rules.specs.declared.Steps.{Steps}
use Rattle.rules.specs.declared.Sheet.{Sheet}
use Rattle.rules.proofs.Computing.{steps}
use Rattle.examining.proofs.WrongExaminers.{Differ, sheet_at, with_process}

-- the sheet of a process and a fraction; the return ratio and the thickening time do not matter to the aeration
abbrev sheet : Process → ℕ → Sheet
sheet process fraction = sheet_at (with_process process 25_000) fraction 75 20

abbrev paused : ℕ → Sheet
paused fraction = sheet Process.Intermittent fraction

-- the same with a term at 10 °C over the whole year, whose fraction is below f
abbrev cold : Plant
cold =
    with_consent
    (record {
      count = 1;
      terms =
          record { first = record { month = 1; day = 1 }; last = record { month = 12; day = 31 }; temperature = 10; nitrate_target = 50_000 }
          ∷ no_term
          ∷ no_term
          ∷ no_term
          ∷ [];
    })
    (with_process Process.Intermittent 25_000)

pub record WrongPauses : Type 0 where
  -- it divides the rounded transfer by 1000 − f and rounds again
  pub divided_again : Differ (paused 200).transfer 172_601 (up (1000 * oxygen_transfer 9_000 (paused 200).oxygen) (1000 - 200))
  -- it divides by 1000 − f outside the rounding, and cuts off
  pub outside_rounding : Differ (paused 200).transfer 172_601 (down (up (1000 * 9_000 * (paused 200).oxygen) (9_000 - 2_000)) (1000 - 200))
  -- it takes document 01's transfer for the intermittent process too
  pub no_pauses : Differ (paused 300).transfer 199_020 (oxygen_transfer 9_000 (paused 300).oxygen)
  -- it pauses in every process
  pub pre_anoxic_paused : Differ (sheet Process.PreAnoxic 300).transfer 139_314 (paused 300).transfer
  pub simultaneous_paused : Differ (sheet Process.Simultaneous 300).transfer 139_314 (paused 300).transfer
  pub step_feed_paused : Differ (sheet (Process.StepFeed Steps.Two) 300).transfer 139_314 (paused 300).transfer
  -- it takes the fraction of another candidate
  pub other_fraction : Differ (paused 300).transfer 199_020 (paused_transfer 9_000 200 (paused 300).oxygen)
  -- it takes the fraction of a term
  pub term_fraction_lem : sheet_at cold 300 75 20 ≡ paused 300
  -- it raises the hourly oxygen by the pauses
  pub oxygen_moves : Differ (paused 300).oxygen (sheet Process.Simultaneous 300).oxygen (up (1000 * (paused 300).oxygen) (1000 - 300))

pub wrong_pauses : WrongPauses
unfolding steps with_process
wrong_pauses =
    record {
      divided_again = (refl, eqb-false _ _ refl);
      outside_rounding = (refl, eqb-false _ _ refl);
      no_pauses = (refl, eqb-false _ _ refl);
      pre_anoxic_paused = (refl, eqb-false _ _ refl);
      simultaneous_paused = (refl, eqb-false _ _ refl);
      step_feed_paused = (refl, eqb-false _ _ refl);
      other_fraction = (refl, eqb-false _ _ refl);
      term_fraction_lem = refl;
      oxygen_moves = (refl, eqb-false _ _ refl);
    }
