mod Sorting
mod Order
mod Dues
pub mod LateLists
mod Dates
pub mod Fits
mod Lookups
mod Picked
mod Carried
mod Reached
mod Goes
