-- What the crate's contracts cite.
pub mod Outcomes
-- A reply as an outcome.
pub mod Replies
