pub mod Bytes
pub mod Handing
