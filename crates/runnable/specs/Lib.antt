pub mod Cabinets
pub mod Octets
pub mod Runnable
