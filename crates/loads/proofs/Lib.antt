-- Laws of this crate that belong to no one function.
pub mod Counting
pub mod Windows
pub mod Sliding
pub mod Passing
pub mod Worked
pub mod Refuted
