-- Laws that the proofs of this crate cite, and wrong readings refuted.
pub mod Answering
pub mod Refuted
