pub mod Listing
pub mod Conflicts
pub mod Beginnings
pub mod Overrunning
