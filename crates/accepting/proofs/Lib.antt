-- Laws of this crate that belong to no one function.
pub mod Ties
pub mod ExactValue
pub mod NumberTest
pub mod Conversions
pub mod Gathering
pub mod Accepted
pub mod Refuted
