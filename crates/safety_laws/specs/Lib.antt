pub mod Safe
pub mod Whole
pub mod TraceText
pub mod Written
pub mod Rows
pub mod CabinetTold
