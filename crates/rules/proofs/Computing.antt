-- Every step of the definitions opened at once, for what is shown by computation on concrete data: a declaration that
-- unfolds `steps` unfolds all that is named here. Assumes nothing.
use lib.Ieee.{round, of_bits}
use Rattle.words.specs.Bytes
use Rattle.rules.specs.PlantData.{figures_without_dose, plant_figures, plant_in_range}
use Rattle.rules.specs.Consent
use Rattle.rules.specs.LabReadings
use Rattle.rules.specs.Accepting
use Rattle.rules.specs.AgeNitrate
use Rattle.rules.specs.CodBalance
use Rattle.rules.specs.ReactorSteps
use Rattle.rules.specs.SettlingSteps
use Rattle.rules.specs.AerationSteps
use Rattle.rules.specs.TermSteps
use Rattle.rules.specs.Examining
use Rattle.rules.specs.Choosing
use Rattle.rules.specs.Explaining
use Rattle.rules.specs.WithoutDose.{with_dose}
use Rattle.rules.specs.WithoutTerms.{with_consent}
use Rattle.rules.specs.WithoutWay.{with_way}
use Rattle.rules.specs.Answers
use Rattle.rules.specs.Explanations
use Rattle.rules.specs.Listing
use Rattle.rules.specs.Sums
use Rattle.rules.specs.Census
use Rattle.rules.specs.DayLog
use Rattle.rules.specs.Cases

unfoldable pub steps : Unit {0}
unfolding
    round
    of_bits
    Bytes.word
    Bytes.low_bytes
    Bytes.chunked
    figures_without_dose
    plant_figures
    plant_in_range
    Consent.days_of
    Consent.date_valid
    Consent.not_after
    Consent.in_force
    Consent.term_valid
    Consent.consent_valid
    Consent.target_on
    LabReadings.no_number
    LabReadings.thousandths
    LabReadings.per_head
    LabReadings.result_in_range
    LabReadings.reading_no_number
    LabReadings.heads_in_range
    LabReadings.reading_value
    LabReadings.reading_in_range
    LabReadings.cod_ratio_broken
    LabReadings.ratio_refused
    Accepting.values_of
    Accepting.data_rules
    Accepting.accept_by
    Accepting.accept
    CodBalance.rounded
    CodBalance.particulate_cod
    CodBalance.inert_particulate
    CodBalance.inert_of_solids
    CodBalance.inert_soluble
    CodBalance.degradable_cod
    CodBalance.dosed_cod
    CodBalance.biomass_formed
    CodBalance.inert_of_biomass
    CodBalance.sludge_as_cod
    CodBalance.inorganic_solids
    CodBalance.carbon_sludge_by_cod
    CodBalance.oxygen_by_cod
    CodBalance.carbon_oxygen_by_cod
    CodBalance.removed_by_oxygen
    AgeNitrate.largest_return_ratio
    AgeNitrate.on_grid
    AgeNitrate.safety_factor
    AgeNitrate.per_degree
    AgeNitrate.growth
    AgeNitrate.decay
    AgeNitrate.aerobic_age
    AgeNitrate.sludge_age
    AgeNitrate.corrected_age
    AgeNitrate.nitrified
    AgeNitrate.denitrified
    AgeNitrate.table_capacity
    AgeNitrate.risen_capacity
    AgeNitrate.capacity_uptake
    AgeNitrate.uptake_capacity
    AgeNitrate.capacity
    AgeNitrate.removes_by_bod
    AgeNitrate.removes_by_cod
    AgeNitrate.removes
    AgeNitrate.removed_by_bod
    AgeNitrate.removed_by_dose
    AgeNitrate.removable
    AgeNitrate.covered
    ReactorSteps.biomass_decay
    ReactorSteps.carbon_sludge
    ReactorSteps.sludge_per_phosphorus
    ReactorSteps.phosphorus_sludge
    ReactorSteps.carbon_sludge_in
    ReactorSteps.sludge_production
    ReactorSteps.sludge_mass
    ReactorSteps.reactor_of
    SettlingSteps.root_from
    SettlingSteps.root_by_digits
    SettlingSteps.cube_root
    SettlingSteps.thickening_root
    SettlingSteps.bottom_sludge
    SettlingSteps.return_share
    SettlingSteps.return_sludge
    SettlingSteps.mixed_solids
    SettlingSteps.diluted_volume
    SettlingSteps.solids_kept
    SettlingSteps.volume_loading
    SettlingSteps.largest_overflow_rate
    SettlingSteps.surface_overflow_rate
    SettlingSteps.settling_surface
    SettlingSteps.settling_depth
    SettlingSteps.settling_volume
    SettlingSteps.settling_of
    ReactorSteps.reactor_by
    ReactorSteps.reactor_dosed
    ReactorSteps.reactor_solids
    ReactorSteps.reactor_volume
    AerationSteps.aeration_uptake
    AerationSteps.carbon_oxygen
    AerationSteps.carbon_oxygen_in
    AerationSteps.nitrification_oxygen
    AerationSteps.denitrified_by_bod
    AerationSteps.saved_oxygen
    AerationSteps.hourly_oxygen
    AerationSteps.oxygen_transfer
    AerationSteps.paused_transfer
    AerationSteps.transfer_of
    AerationSteps.recirculation
    AerationSteps.aeration_by
    AerationSteps.aeration_saving
    AerationSteps.aeration_of
    TermSteps.aerobic_share
    TermSteps.term_share
    TermSteps.nitrifies
    TermSteps.term_fraction
    TermSteps.removes_from200
    TermSteps.term_removes
    TermSteps.term_denitrified
    TermSteps.term_covered
    Examining.total_of
    Examining.sheet_from
    Examining.sheet_of
    Examining.candidate_rules
    Examining.permitted
    Examining.answer_by
    Examining.judge
    Examining.judge_accepted
    Examining.examine
    Examining.examination_rules
    Explaining.explained_by
    Explaining.candidate_explained
    Explaining.explain_candidate
    Explaining.explain_accepted
    Explaining.explain
    Explaining.explanation_rules
    Explaining.term_explained
    Explaining.term_at
    Choosing.candidate_of
    Choosing.candidate_total
    with_dose
    with_consent
    with_way
    Answers.empty_sheet
    Answers.answer_number
    Answers.answer_sheet
    Answers.sheet_figures
    Explanations.term_figures
    Explanations.explained_figures
    Answers.value_or_zero
    Explanations.explanation_figures
    Listing.text
    Listing.digits
    Listing.numeral
    Listing.line
    Listing.sheet_listing
    Listing.listing
    Sums.sum_from
    Sums.values_from
    Census.sum_over_grid
    Census.grid_size
    Census.counted
    Census.census_accepted
    Census.census
    DayLog.day_of
    DayLog.log_whole
    DayLog.day_kept
    DayLog.days_kept
    DayLog.day_load
    DayLog.window_load
    DayLog.higher
    DayLog.highest_of
    DayLog.log_rules
    DayLog.load_by
    DayLog.two_week_load
    DayLog.load_of
    Cases.variant
    Cases.hopper_plant
    Cases.case_a
    Cases.f32
    Cases.readings_with
    Cases.readings_a
    Cases.concentrations_a
    Cases.candidate
    Cases.reading_a
    Cases.hopper_volume
steps = tt
