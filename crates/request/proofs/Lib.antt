-- Laws that the proofs of other crates cite, and a worked request.
pub mod Lengths
pub mod CaseA
