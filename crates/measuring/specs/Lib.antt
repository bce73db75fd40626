-- What the calls for a listing's length give back, for every byte string.
pub mod Lengths
