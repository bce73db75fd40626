-- What the crate's contracts cite.
pub mod Spots
pub mod Sweeps
