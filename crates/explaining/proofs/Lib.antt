-- What explaining shuts out.
pub mod Refuted
