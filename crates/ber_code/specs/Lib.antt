pub mod Fields
pub mod Lengths
pub mod Integers
pub mod Names
pub mod Reading
