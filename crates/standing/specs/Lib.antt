-- What the call on existing tanks gives back, for every byte string and every page.
pub mod Tanks
