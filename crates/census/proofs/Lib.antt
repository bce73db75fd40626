-- Laws of tallies, the census out of two of them, worked cases, and what the census shuts out.
pub mod Tallying
pub mod Products
pub mod WorkedCensus
pub mod Refuted
