pub mod Calls
pub mod Answers
pub mod StageKeeps
pub mod Laws
