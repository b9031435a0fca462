pub mod CabinetStates
pub mod Opening
pub mod Replied
pub mod Lines
pub mod Joined
pub mod ClosedLoop
