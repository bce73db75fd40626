-- Laws of a split's shares and of the lines in their array, and the wrong programs that the definitions shut out.
pub mod Shares
pub mod Filled
pub mod Refuted
