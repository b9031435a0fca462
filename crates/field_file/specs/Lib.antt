pub mod Schedule
pub mod Counting
pub mod Written
pub mod FieldAnswer
pub mod Texts
