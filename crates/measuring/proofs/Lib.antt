-- What the length that a call gives says of the call that writes.
pub mod Pages
