-- What the crate's contracts cite beside document 01's own definitions.
pub mod Pages
pub mod Forms
