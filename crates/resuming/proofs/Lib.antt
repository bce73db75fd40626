-- The laws behind the calls on a state: its bytes, its words, and that it is read back as it was written.
pub mod Bytes
pub mod StateWords
pub mod ReadBack
