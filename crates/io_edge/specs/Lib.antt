pub mod Edge
pub mod Calls
pub mod Memory
pub mod Standard
pub mod Silent
