-- The laws behind a sweep: a stretch of its order by fractions and tanks, the best of an advance, and what an advance answers.
pub mod Places
pub mod Advancing
pub mod AdvanceBy
pub mod Lists
pub mod Refuted
