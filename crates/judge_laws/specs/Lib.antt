pub mod Joined
pub mod Breaches
pub mod Sublist
pub mod Overrun
pub mod TablesTold
