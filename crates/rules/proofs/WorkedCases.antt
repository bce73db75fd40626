-- Case A at its candidate and the table cases (1) to (9), by computation. Assumes nothing.
use mathlib.Core.Path.{refl}
use Rattle.rules.specs.Cases.{Cases}
use Rattle.rules.proofs.Computing.{steps}

pub cases : Cases
unfolding steps
cases =
    record {
      case_a_lem = refl;
      case_1_growth = refl;
      case_1_decay_12 = refl;
      case_1_decay_20 = refl;
      case_2_at_1201 = refl;
      case_2_at_3600 = refl;
      case_2_at_6000 = refl;
      case_3_at_180 = refl;
      case_3_at_145 = refl;
      case_4_at_200 = refl;
      case_4_at_500 = refl;
      case_5_at_20 = refl;
      case_5_at_25 = refl;
      case_6_tie_down = refl;
      case_6_tie_up = refl;
      case_6_below = refl;
      case_7_capacity = refl;
      case_7_refusal = refl;
      case_8_at_91 = refl;
      case_8_at_92 = refl;
      case_8_refusal_at_91 = refl;
      case_8_refusal = refl;
      case_9_passes = refl;
      case_9_refusal = refl;
    }
