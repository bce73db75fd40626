-- Laws that the functions' proofs cite, and mistakes told apart from the definitions.
pub mod Chains
pub mod Refuted
