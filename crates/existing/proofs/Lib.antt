-- Laws of an index that is won, and the wrong programs that the definitions shut out.
pub mod Winning
pub mod Refuted
