-- What the functions of this crate promise beside the rules.
pub mod Stages
