pub mod Counts
pub mod Lines
pub mod Short
pub mod Turn
pub mod Back
pub mod Heard
