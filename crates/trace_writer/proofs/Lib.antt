pub mod Writing
pub mod Handed
mod ScenarioLine
