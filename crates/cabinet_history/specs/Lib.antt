pub mod CabinetHistory
pub mod Journals
pub mod Coming
pub mod Frames
pub mod CabinetAnswers
pub mod Downloads
pub mod Installs
