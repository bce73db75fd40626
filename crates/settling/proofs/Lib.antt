-- Laws that the functions' proofs cite, and mistakes told apart from the definitions.
pub mod Limits
pub mod Bounds
pub mod Refuted
pub mod RootSpan
