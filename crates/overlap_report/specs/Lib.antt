pub mod Overlaps
pub mod BySeen
