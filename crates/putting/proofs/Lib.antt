-- Laws that the proofs of this crate and of others cite: what is put on a page that is long enough, and on one that is too short; and runs
-- stored up to the end of a list.
pub mod Outcomes
pub mod Runs
