pub mod Words
pub mod Texts
pub mod Line
pub mod IsLine
pub mod Reads
pub mod Fronts
pub mod FrameLines
