pub mod Dwelling
pub mod Goals
pub mod Inputs
