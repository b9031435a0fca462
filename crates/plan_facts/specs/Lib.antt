pub mod Goals
pub mod Times
pub mod Plan
pub mod Disturbances
pub mod Greatest
pub mod Bounds
pub mod Meets
pub mod Rows
