-- Each exit of examining over plain values, and the wrong examiners that it shuts out.
pub mod Verdicts
pub mod Bounds
pub mod WrongExaminers
pub mod Refuted
pub mod WrongDoses
pub mod WrongTerms
pub mod WrongPauses
pub mod WrongWays
