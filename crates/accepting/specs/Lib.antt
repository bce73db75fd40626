-- Definitions that this crate's contracts need beside document 01's.
pub mod CutOff
pub mod Conversion
pub mod Acceptance
