pub mod LookingBack
pub mod Inputs
pub mod Told
pub mod ObserverStands
