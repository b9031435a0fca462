pub mod Overlap
pub mod Text
pub mod Parents
pub mod OverlapStands
pub mod Rows
pub mod Rules
pub mod Street
pub mod Trace
