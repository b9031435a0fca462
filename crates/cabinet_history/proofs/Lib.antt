pub mod Growing
pub mod Runs
pub mod Whole
pub mod Installing
