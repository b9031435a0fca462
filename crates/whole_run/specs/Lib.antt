pub mod Orders
pub mod Rounds
pub mod Counting
pub mod Adding
pub mod Pens
pub mod PenLaws
