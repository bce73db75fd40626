-- Laws that the proofs of this crate cite.
pub mod Page
pub mod Digits
pub mod Filling
pub mod Listed
pub mod Outcomes
pub mod Refuted
pub mod Longest
