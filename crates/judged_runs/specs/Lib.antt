pub mod Loads
pub mod Messages
pub mod Rows
pub mod Faultless
