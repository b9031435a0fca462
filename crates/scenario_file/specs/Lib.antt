pub mod Growing
pub mod Plain
pub mod Listing
pub mod Framing
pub mod Left
pub mod Outer
pub mod Source
pub mod Trees
