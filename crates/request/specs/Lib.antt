-- What the crate's contracts cite.
pub mod Kinds
pub mod Frames
pub mod ConsentLayout
pub mod Layout
