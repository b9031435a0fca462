pub mod Told
pub mod Texts
mod RoundLines
mod Books
