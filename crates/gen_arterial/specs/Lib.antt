pub mod Draws
pub mod Generated
pub mod Written
pub mod Drawing
pub mod Smallest
