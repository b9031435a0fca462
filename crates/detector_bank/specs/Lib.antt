pub mod Pulses
pub mod Bank
pub mod Lists
pub mod Watching
