-- Document 01 as definitions over the whole numbers, in its order: the roundings; plant data and site; lab readings, with
-- the rules 1 to 4; sludge age and nitrate; sludge and tanks; aeration and recirculation; examining, with the rules 6 to
-- 10, and numbered answers; choosing; the listing; the worked cases. From document 02 the dose, the terms of the consent
-- with the rules 14 to 16, bulking sludge with rule 17, sludge and oxygen from COD, works in lines with rule 18, a sweep's order,
-- existing tanks with the rules 20 and 21, the price of the concrete with rule 22, looser limits. Beside them: the ranges as facts, the two nitrate columns, what explains a candidate, the
-- census of the grid, the day log with its highest two-week load, and the steps without a dose, without terms, without bulking sludge,
-- without pauses in aeration and without a way.
pub mod Rounding
pub mod Limits
pub mod Sums
pub mod Kinds
pub mod PlantData
pub mod Consent
pub mod LabReadings
pub mod Results
pub mod Rules
pub mod Accepting
pub mod CodBalance
pub mod CodExact
pub mod AgeNitrate
pub mod ReactorSteps
pub mod SettlingSteps
pub mod AerationSteps
pub mod TermSteps
pub mod Ranges
pub mod Examining
pub mod Answers
pub mod Explanations
pub mod Choosing
pub mod Explaining
pub mod Outcomes
pub mod TargetOutcome
pub mod TwoColumns
pub mod OtherSteps
pub mod WithoutDose
pub mod WithoutTerms
pub mod Census
pub mod Bulking
pub mod WithoutPauses
pub mod WithoutWay
pub mod Lines
pub mod Works
pub mod WorksOutcome
pub mod Sweep
pub mod Existing
pub mod ExistingOutcome
pub mod Price
pub mod PriceOutcome
pub mod LooserLimits
pub mod DayLog
pub mod DayLogOutcome
pub mod Listing
pub mod Cases
pub mod CodCases
