-- The laws behind the sweep, from the order of choosing to demand 3, and the wrong choosers that they shut out.
pub mod Filling
pub mod Joining
pub mod Stepping
pub mod Choice
pub mod Refuted
