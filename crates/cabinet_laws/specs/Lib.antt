pub mod Openings
pub mod Parts
pub mod Judging
pub mod Telling
