-- What the functions of this crate promise beside the census.
pub mod Tallies
