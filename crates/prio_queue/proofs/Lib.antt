pub mod Leading
pub mod Idle
