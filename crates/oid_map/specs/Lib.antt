pub mod Order
pub mod Objects
pub mod Names
pub mod Reading
pub mod Steps
