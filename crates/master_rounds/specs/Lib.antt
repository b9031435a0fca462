pub mod Rounds
pub mod Served
pub mod Bounds
pub mod Answered
pub mod RoundsStand
pub mod Begun
pub mod Turns
