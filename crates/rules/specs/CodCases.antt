-- The worked examples of docs/cod-way.md: Case A in the way by COD, with a COD and solids of its own and a dose. The theorem `cod_cases` in
-- proofs/WorkedCodCases.antt proves the record. Assumes nothing.
use Rattle.std.specs.Prelude.{ℕ, ◌+◌, ◌≡◌, true, false, List, [], ◌∷◌}
use Rattle.rules.specs.CodBalance.{particulate_cod, inert_of_solids, inert_soluble, degradable_cod, dosed_cod, biomass_formed, inert_of_biomass, sludge_as_cod, inorganic_solids, carbon_sludge_by_cod, oxygen_by_cod, carbon_oxygen_by_cod, removed_by_oxygen}
use Rattle.rules.specs.Examining.{examine}
use Rattle.rules.specs.Answers.{answer_sheet, sheet_figures}
use Rattle.rules.specs.WithoutDose.{with_dose}
use Rattle.rules.specs.WithoutWay.{with_way}
use Rattle.rules.specs.Cases.{case_a, f32, candidate}
use Rattle.rules.specs.declared.Way.{Way}
use Rattle.rules.specs.declared.Reading.{Reading}
use Rattle.rules.specs.declared.Readings.{Readings}

-- U of Case A at the fraction 300, at its design temperature and at its aeration temperature
abbrev pub design_u : ℕ
design_u = 9_524

abbrev pub aeration_u : ℕ
aeration_u = 16_610

-- the sludge's chain: particulate COD, its inert part, inert soluble COD, degradable COD with the dose, biomass, its inert matter,
-- sludge as COD, inorganic solids, carbon sludge
unfoldable pub sludge_chain : ℕ → ℕ → ℕ → List ℕ
sludge_chain cod solids dose =
    let inert = inert_of_solids true solids in
    let degradable = degradable_cod cod (inert_soluble false cod) inert + dosed_cod dose in
    let biomass = biomass_formed true degradable design_u in
    particulate_cod true solids
    ∷ inert
    ∷ inert_soluble false cod
    ∷ degradable
    ∷ biomass
    ∷ inert_of_biomass true biomass design_u
    ∷ sludge_as_cod true inert degradable design_u
    ∷ inorganic_solids solids
    ∷ carbon_sludge_by_cod 5_000 cod solids dose design_u
    ∷ []

-- the aeration's: inert particulate COD, degradable COD, biomass, its inert matter, oxygen, carbon's oxygen
unfoldable pub aeration_chain : ℕ → ℕ → List ℕ
aeration_chain cod solids =
    let inert = inert_of_solids false solids in
    let degradable = degradable_cod cod (inert_soluble false cod) inert in
    let biomass = biomass_formed false degradable aeration_u in
    inert
    ∷ degradable
    ∷ biomass
    ∷ inert_of_biomass false biomass aeration_u
    ∷ oxygen_by_cod false cod solids aeration_u
    ∷ carbon_oxygen_by_cod 5_000 cod solids aeration_u
    ∷ []

-- Case A's readings with another COD and other solids, mg/l
unfoldable pub readings_by_cod : ℕ → ℕ → Readings
readings_by_cod cod solids =
    record {
      bod = Reading.Measured (f32 200 1);
      cod = Reading.Measured (f32 cod 1);
      solids = Reading.Measured (f32 solids 1);
      nitrogen = Reading.Measured (f32 46 1);
      phosphorus = Reading.Measured (f32 8 1);
    }

-- the fifteen figures of the sheet, with a dose
unfoldable pub figures_by_cod : ℕ → ℕ → ℕ → List ℕ
figures_by_cod cod solids dose =
    sheet_figures (answer_sheet (examine (with_dose dose (with_way Way.Cod case_a)) (readings_by_cod cod solids) (candidate 300 75 20)))

pub record CodCases : Type 0 where
  -- COD 400 and solids 150, Case A's own
  pub sludge : sludge_chain 400_000 150_000 0 ≡ 152_250 ∷ 53_288 ∷ 20_000 ∷ 326_712 ∷ 83_578 ∷ 27_064 ∷ 163_930 ∷ 45_000 ∷ 931_595 ∷ []
  pub aeration : aeration_chain 400_000 150_000 ≡ 53_287 ∷ 326_713 ∷ 57_247 ∷ 32_329 ∷ 237_137 ∷ 1_185_685 ∷ []
  pub cover : oxygen_by_cod true 400_000 150_000 design_u ≡ 216_070
  pub removed : removed_by_oxygen 300 400_000 150_000 design_u ≡ 16_764_000
  pub sheet :
      figures_by_cod 400 150 0 ≡ 300 ∷ 75 ∷ 20 ∷ 11_733 ∷ 1_101_595 ∷ 12_926 ∷ 3_779 ∷ 3_421 ∷ 454 ∷ 4_536 ∷ 2_060 ∷ 5_481 ∷ 2_600 ∷ 98_196 ∷ 126_252 ∷ []
  -- COD 400 and solids 450: the particulate COD exceeds the COD, and nothing is held at 0
  pub solids_sludge :
      sludge_chain 400_000 450_000 0 ≡ 456_750 ∷ 159_863 ∷ 20_000 ∷ 220_137 ∷ 56_315 ∷ 18_236 ∷ 234_414 ∷ 135_000 ∷ 1_685_406 ∷ []
  pub solids_aeration : aeration_chain 400_000 450_000 ≡ 159_862 ∷ 220_138 ∷ 38_573 ∷ 21_783 ∷ 159_782 ∷ 798_910 ∷ []
  pub solids_cover : oxygen_by_cod true 400_000 450_000 design_u ≡ 145_586
  pub solids_sheet :
      figures_by_cod 400 450 0 ≡ 300 ∷ 75 ∷ 20 ∷ 11_733 ∷ 1_855_406 ∷ 21_770 ∷ 3_779 ∷ 5_761 ∷ 454 ∷ 4_536 ∷ 2_060 ∷ 7_821 ∷ 2_600 ∷ 82_080 ∷ 105_532 ∷ []
  -- COD 100 and solids 300: degradable COD and oxygen are held at 0, and so is carbon less saved
  pub held_sludge : sludge_chain 100_000 300_000 0 ≡ 304_500 ∷ 106_575 ∷ 5_000 ∷ 0 ∷ 0 ∷ 0 ∷ 106_575 ∷ 90_000 ∷ 909_375 ∷ []
  pub held_aeration : aeration_chain 100_000 300_000 ≡ 106_575 ∷ 0 ∷ 0 ∷ 0 ∷ 0 ∷ 0 ∷ []
  pub held_cover : oxygen_by_cod true 100_000 300_000 design_u ≡ 0
  pub held_sheet :
      figures_by_cod 100 300 0 ≡ 300 ∷ 75 ∷ 20 ∷ 11_733 ∷ 1_079_375 ∷ 12_665 ∷ 3_779 ∷ 3_352 ∷ 454 ∷ 4_536 ∷ 2_060 ∷ 5_412 ∷ 2_600 ∷ 64_500 ∷ 82_929 ∷ []
  -- COD 400, solids 150 and a dose of 50,000
  pub dosed_sludge :
      sludge_chain 400_000 150_000 50_000 ≡ 152_250 ∷ 53_288 ∷ 20_000 ∷ 376_712 ∷ 96_369 ∷ 31_206 ∷ 180_863 ∷ 45_000 ∷ 1_004_582 ∷ []
  pub dosed_sheet :
      figures_by_cod 400 150 50_000 ≡ 300 ∷ 75 ∷ 20 ∷ 11_733 ∷ 1_174_582 ∷ 13_782 ∷ 3_779 ∷ 3_647 ∷ 454 ∷ 4_536 ∷ 2_060 ∷ 5_707 ∷ 2_600 ∷ 104_237 ∷ 134_019 ∷ []
