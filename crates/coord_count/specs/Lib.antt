pub mod Limits
pub mod CountStands
pub mod Passed
