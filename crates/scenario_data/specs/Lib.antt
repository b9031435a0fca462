pub mod Content
pub mod Causes
pub mod Opening
pub mod Inputs
