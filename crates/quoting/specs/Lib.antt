-- What the calls for a price give back, for every byte string and every page.
pub mod Quotes
