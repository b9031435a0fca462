pub mod InStep
pub mod Ending
pub mod Passed
