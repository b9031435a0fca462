pub mod Lesser
pub mod Since
pub mod Watches
pub mod Signals
pub mod Phase
pub mod InForce
pub mod Cabinet
