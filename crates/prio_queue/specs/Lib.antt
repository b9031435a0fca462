pub mod Places
pub mod QueueStands
pub mod Idle
