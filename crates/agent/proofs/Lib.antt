pub mod Gathered
pub mod Written
pub mod Rooms
pub mod Instances
pub mod Octets
pub mod Faults
pub mod Asked
pub mod Readings
