-- What the step of one rule tells of it.
pub mod Steps
