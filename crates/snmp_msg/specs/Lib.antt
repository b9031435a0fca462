pub mod Values
pub mod Messages
pub mod Shortest
pub mod Reading
pub mod Parts
pub mod Around
pub mod Heads
