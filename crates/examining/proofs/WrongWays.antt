-- Wrong programs of the way by COD, each on data where it answers otherwise than the definition, by computation; that a larger
-- fraction can lose the cover, and that a larger dose can make a plant larger. Assumes nothing.
use Prim.Native.Nat.{ℕ, ◌+◌, ◌-◌, ◌*◌, ◌^◌}
use mathlib.Core.Path.{◌≡◌, refl}
use mathlib.Core.Bool.{Bool, true, false}
use borrow.Author.Tests.{eqb-false}
use Rattle.rules.specs.Rounding.{down, up}
use Rattle.rules.specs.CodBalance.{rounded, inert_of_solids, inert_soluble, degradable_cod, dosed_cod, sludge_as_cod, carbon_sludge_by_cod, oxygen_by_cod, removed_by_oxygen}
use Rattle.rules.specs.Accepting.{accept}
use Rattle.rules.specs.AgeNitrate.{nitrified, removes, removes_by_bod}
use Rattle.rules.specs.ReactorSteps.{phosphorus_sludge, reactor_of}
use Rattle.rules.specs.TermSteps.{removes_from200, term_removes}
use Rattle.rules.specs.Examining.{sheet_of, judge}
use Rattle.rules.specs.Answers.{answer_number}
use Rattle.rules.specs.Cases.{case_a, f32, readings_with, concentrations_a, candidate}
use Rattle.rules.specs.CodCases.{design_u, aeration_u}
use Rattle.rules.specs.WithoutDose.{with_dose}
use Rattle.rules.specs.WithoutWay.{with_way}
use Rattle.rules.specs.declared.Plant.{Plant}
use Rattle.rules.specs.declared.Process.{Process}
use Rattle.rules.specs.declared.Way.{Way}
use Rattle.rules.specs.declared.Concentrations.{Concentrations}
use Rattle.rules.specs.declared.Reactor.{Reactor}
use Rattle.rules.specs.declared.Term.{Term}
use Rattle.rules.specs.declared.Sheet.{Sheet}
use Rattle.rules.proofs.Computing.{steps}
use Rattle.examining.proofs.WrongExaminers.{Differ, with_process}

-- the carbon sludge of 200,000 m3/d at U 9,524 by a balance of one's own: rounding of inert particulate and inert soluble COD and of
-- biomass; the inert share, A and B, hundredths
abbrev sludge_by : Bool → Bool → ℕ → ℕ → ℕ → ℕ → ℕ → ℕ
sludge_by particulate soluble share a b cod solids =
    let inert = rounded particulate (a * rounded particulate (145 * (100 - b) * solids) 10_000) 100 in
    let degradable = degradable_cod cod (rounded soluble (share * cod) 100) inert in
    up (200_000 * (100 * sludge_as_cod particulate inert degradable design_u + 116 * up (b * solids) 100)) 116_000

-- the oxygen by such a balance
abbrev oxygen_with : Bool → Bool → ℕ → ℕ → ℕ
oxygen_with particulate soluble cod solids =
    let inert = inert_of_solids particulate solids in
    let inert_cod = inert_soluble soluble cod in
    cod - inert_cod - sludge_as_cod particulate inert (degradable_cod cod inert_cod inert) design_u

-- Case A in the way by COD
abbrev by_cod : Plant
by_cod = with_way Way.Cod case_a

abbrev sheet_with : ℕ → Sheet
sheet_with dose = sheet_of (with_dose dose by_cod) concentrations_a (candidate 300 75 20)

-- what acceptance answers to a COD in tenths of mg/l beside a BOD of 200 mg/l
abbrev ratio_in : Way → ℕ → ℕ
ratio_in way tenths = answer_number (accept (with_way way case_a) (readings_with (f32 tenths 10)))

-- Case A as a simultaneous plant in the way by COD, and a term at a temperature
abbrev simultaneous : Plant
simultaneous = with_way Way.Cod (with_process Process.Simultaneous 10_000)

abbrev reactor : Reactor
reactor = reactor_of simultaneous concentrations_a 300

abbrev term : ℕ → Term
term temperature =
    record { first = record { month = 1; day = 1 }; last = record { month = 12; day = 31 }; temperature = temperature; nitrate_target = 20_000 }

-- water with so little carbon that a thousandth of oxygen decides the cover
abbrev thin : Concentrations
thin = record { bod = 20_000; cod = 20_000; solids = 53_351; nitrogen = 12_803; phosphorus = 8_000 }

abbrev number_at : Plant → ℕ → ℕ
number_at p fraction = answer_number (judge p thin (candidate fraction 75 20))

pub record WrongChains : Type 0 where
  -- it takes one chain for all three: the cover's for the sludge, the aeration's for the sludge, the cover's for aeration, the sludge's
  -- and the aeration's for the cover
  pub sludge_by_cover : Differ (carbon_sludge_by_cod 200_000 400_002 150_013 0 design_u) 37_265_456 (sludge_by true true 5 35 30 400_002 150_013)
  pub sludge_by_aeration : Differ (carbon_sludge_by_cod 200_000 400_017 150_013 0 design_u) 37_266_145 (sludge_by false false 5 35 30 400_017 150_013)
  pub aeration_by_cover : Differ (oxygen_by_cod false 400_017 150_013 aeration_u) 237_146 (oxygen_by_cod true 400_017 150_013 aeration_u)
  pub cover_by_sludge : Differ (oxygen_by_cod true 400_001 150_013 design_u) 216_066 (oxygen_with true false 400_001 150_013)
  pub cover_by_aeration : Differ (removed_by_oxygen 204 400_017 150_013 design_u) 11_399_000 (1000 * down (75 * 204 * oxygen_by_cod false 400_017 150_013 design_u) 290_000)
  -- it takes the other end of a range: 0.1 of the COD inert and soluble, A 0.2, B 0.2
  pub share_of_tenth : Differ (carbon_sludge_by_cod 200_000 400_017 150_013 0 design_u) 37_266_145 (sludge_by true false 10 35 30 400_017 150_013)
  pub least_a : Differ (carbon_sludge_by_cod 200_000 400_017 150_013 0 design_u) 37_266_145 (sludge_by true false 5 20 30 400_017 150_013)
  pub least_b : Differ (carbon_sludge_by_cod 200_000 400_017 150_013 0 design_u) 37_266_145 (sludge_by true false 5 35 20 400_017 150_013)
  -- with the appendix's ends that balance is the definition's
  pub own_ends : carbon_sludge_by_cod 200_000 400_017 150_013 0 design_u ≡ sludge_by true false 5 35 30 400_017 150_013
  -- it rounds A7 and A4 as one, or A6 and A14
  pub inert_at_once : Differ (inert_of_solids true 150_004) 53_290 (up (35 * 1015 * 150_004) 100_000)
  pub inorganic_at_once : Differ (carbon_sludge_by_cod 200_000 400_017 150_001 0 design_u) 37_265_200 (up (200_000 * (1000 * sludge_as_cod true (inert_of_solids true 150_001) (degradable_cod 400_017 (inert_soluble false 400_017) (inert_of_solids true 150_001)) design_u + 348 * 150_001)) 1_160_000)
  -- it wraps a negative difference: degradable COD and oxygen of COD 100 with solids 300
  pub degradable_wrapped : Differ (degradable_cod 100_000 (inert_soluble false 100_000) (inert_of_solids true 300_000)) 0 (2 ^ 64 + 100_000 - 5_000 - 106_575)
  pub oxygen_wrapped : Differ (oxygen_by_cod false 100_000 300_000 aeration_u) 0 (2 ^ 64 + 100_000 - 5_000 - 106_575)
  pub net_wrapped : Differ (sheet_of by_cod (record { bod = 200_000; cod = 100_000; solids = 300_000; nitrogen = 46_000; phosphorus = 8_000 }) (candidate 300 75 20)).oxygen 64_500 (up (100 * (2 ^ 64 - 377_000) + 200 * 774_000) 2400)

pub record WrongWays : Type 0 where
  -- it counts the dose in the oxygen of aeration
  pub dose_in_oxygen : Differ (sheet_with 50_000).oxygen 104_237 (up (100 * (up (5_000 * oxygen_by_cod false 450_000 150_000 aeration_u) 1000 - 232_000) + 200 * 774_000) 2400)
  -- it counts a dose of 10 mg/l, or of a larger one only what exceeds 10 mg/l, or none
  pub dose_of_10 : Differ (sheet_with 10_000).sludge (sheet_with 0).sludge (170_000 + up (5_000 * (100 * sludge_as_cod true 53_288 (326_712 + 10_000) design_u + 116 * 45_000)) 116_000)
  pub dose_above_10 : Differ (sheet_with 10_001).sludge 1_116_199 (170_000 + up (5_000 * (100 * sludge_as_cod true 53_288 (326_712 + 1) design_u + 116 * 45_000)) 116_000)
  pub dose_left_out : Differ (sheet_with 10_001).sludge 1_116_199 (sheet_with 10_000).sludge
  -- it adds the dose before the degradable COD is held at 0
  pub dose_before_held : Differ (degradable_cod 100_000 (inert_soluble false 100_000) (inert_of_solids true 300_000) + dosed_cod 50_000) 50_000 (degradable_cod (100_000 + dosed_cod 50_000) (inert_soluble false 100_000) (inert_of_solids true 300_000))
  -- 4 is still due; 4 is no longer due by BOD
  pub ratio_still_due : Differ (ratio_in Way.Cod 4_401) 0 4
  pub ratio_never_due : Differ (ratio_in Way.Bod 4_401) 4 0
  -- it takes what COD removes for a pre-anoxic plant
  pub pre_anoxic_by_cod : Differ (removes Way.Cod Process.PreAnoxic concentrations_a 300 12 design_u) 26_000_000 (removed_by_oxygen 300 400_000 150_000 design_u)
  -- it keeps K × C for a simultaneous one
  pub simultaneous_by_bod : Differ (removes Way.Cod Process.Simultaneous concentrations_a 300 12 design_u) 16_764_000 (removes_by_bod Process.Simultaneous concentrations_a 300 12 design_u)
  -- it takes the phosphorus that the biomass holds from COD, or W
  pub phosphorus_from_cod : Differ (sheet_with 0).sludge 1_101_595 (931_595 + phosphorus_sludge 5_000 68 8_000 1_000 400_000)
  pub nitrified_from_cod : Differ reactor.nitrified 36_000 (nitrified 46_000 400_000)
  -- it takes the aeration's U at the design temperature
  pub aeration_at_design : Differ (oxygen_by_cod false 400_000 150_000 aeration_u) 237_137 (oxygen_by_cod false 400_000 150_000 design_u)
  -- in a term: it takes the design's U, the candidate's own fraction, or what is removed at a fraction under 200
  pub term_at_design : Differ (term_removes simultaneous concentrations_a reactor (term 11)) 12_514_000 (removes_from200 Way.Cod Process.Simultaneous concentrations_a 227 11 design_u)
  pub own_fraction_in_term : Differ (term_removes simultaneous concentrations_a reactor (term 11)) 12_514_000 16_539_000
  pub term_under_200 : Differ (term_removes simultaneous concentrations_a reactor (term 10)) 0 (removes Way.Cod Process.Simultaneous concentrations_a 148 10 8_287)
  -- A larger fraction can lose the cover: 376 is permitted, 377 gets 7. In the way by BOD it cannot (`upward_by_bod`).
  pub not_upward : (number_at simultaneous 376 ≡ 0) × (number_at simultaneous 377 ≡ 7)
  -- A larger dose can make a plant larger: at the same candidate the total grows from 5,481 to 5,707.
  pub dearer_dose : ((sheet_with 0).total ≡ 5_481) × ((sheet_with 50_000).total ≡ 5_707)

pub wrong_chains : WrongChains
unfolding steps
wrong_chains =
    record {
      sludge_by_cover = (refl, eqb-false _ _ refl);
      sludge_by_aeration = (refl, eqb-false _ _ refl);
      aeration_by_cover = (refl, eqb-false _ _ refl);
      cover_by_sludge = (refl, eqb-false _ _ refl);
      cover_by_aeration = (refl, eqb-false _ _ refl);
      share_of_tenth = (refl, eqb-false _ _ refl);
      least_a = (refl, eqb-false _ _ refl);
      least_b = (refl, eqb-false _ _ refl);
      own_ends = refl;
      inert_at_once = (refl, eqb-false _ _ refl);
      inorganic_at_once = (refl, eqb-false _ _ refl);
      degradable_wrapped = (refl, eqb-false _ _ refl);
      oxygen_wrapped = (refl, eqb-false _ _ refl);
      net_wrapped = (refl, eqb-false _ _ refl);
    }

pub wrong_ways : WrongWays
unfolding steps with_process
wrong_ways =
    record {
      dose_in_oxygen = (refl, eqb-false _ _ refl);
      dose_of_10 = (refl, eqb-false _ _ refl);
      dose_above_10 = (refl, eqb-false _ _ refl);
      dose_left_out = (refl, eqb-false _ _ refl);
      dose_before_held = (refl, eqb-false _ _ refl);
      ratio_still_due = (refl, eqb-false _ _ refl);
      ratio_never_due = (refl, eqb-false _ _ refl);
      pre_anoxic_by_cod = (refl, eqb-false _ _ refl);
      simultaneous_by_bod = (refl, eqb-false _ _ refl);
      phosphorus_from_cod = (refl, eqb-false _ _ refl);
      nitrified_from_cod = (refl, eqb-false _ _ refl);
      aeration_at_design = (refl, eqb-false _ _ refl);
      term_at_design = (refl, eqb-false _ _ refl);
      own_fraction_in_term = (refl, eqb-false _ _ refl);
      term_under_200 = (refl, eqb-false _ _ refl);
      not_upward = (refl, refl);
      dearer_dose = (refl, refl);
    }
