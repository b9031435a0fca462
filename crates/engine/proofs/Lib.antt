mod Alone
pub mod Opens
pub mod Visiting
pub mod Running
pub mod Passed
