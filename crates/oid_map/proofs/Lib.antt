pub mod Search
pub mod Ranges
pub mod Rows
pub mod Back
pub mod Rising
pub mod Least
pub mod Table
pub mod Prefixes
