-- Why ten values differ.
pub mod Explained
