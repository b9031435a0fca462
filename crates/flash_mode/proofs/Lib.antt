pub mod Turning
pub mod Reds
