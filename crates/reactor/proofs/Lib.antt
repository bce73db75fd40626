-- Laws of the figures that depend on the fraction alone.
pub mod EachOf
pub mod Limits
pub mod AgeLimits
pub mod NitrateLimits
pub mod SludgeLimits
pub mod Bounds
pub mod EverySeason
pub mod Refuted
pub mod UpwardCover
