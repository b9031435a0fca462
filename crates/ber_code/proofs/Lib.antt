pub mod Exact
pub mod Pieces
pub mod LengthLaws
pub mod IntegerLaws
pub mod NameLaws
pub mod Texts
pub mod Fours
