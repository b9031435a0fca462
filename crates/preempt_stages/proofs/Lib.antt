pub mod Each
pub mod Least
pub mod Inputs
pub mod Covered
pub mod Goes
pub mod Listed
pub mod OnPhases
