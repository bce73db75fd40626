-- What the functions of the reactor over the terms of the consent promise.
pub mod Seasons
