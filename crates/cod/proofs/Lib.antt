-- Limits of the figures from COD.
pub mod Limits
