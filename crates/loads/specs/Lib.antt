-- What the functions of this crate promise beside the definition of the highest two-week load.
pub mod Windows
