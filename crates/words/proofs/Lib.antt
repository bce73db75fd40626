-- Laws that the proofs of this crate and of others cite, and worked bytes.
pub mod Stores
pub mod Worked
