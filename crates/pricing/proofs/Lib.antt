-- Laws of a tariff's tests and of the price by bands, the volumes of an answer, and the wrong programs that the definitions shut out.
pub mod BandTests
pub mod Charging
pub mod Volumes
pub mod Refuted
