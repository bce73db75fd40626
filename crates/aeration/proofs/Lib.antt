-- Limits of the oxygen figures, and wrong roundings that they are not.
pub mod Oxygen
pub mod Bounds
pub mod Refuted
