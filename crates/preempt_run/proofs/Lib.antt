pub mod Called
pub mod Dwelt
pub mod First
pub mod Runs
pub mod Others
pub mod Passed
