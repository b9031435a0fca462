pub mod Street
pub mod Bands
pub mod Arcs
pub mod Asked
pub mod Parts
pub mod BandAnswer
