pub mod Lists
pub mod Items
pub mod Happenings
pub mod Street
pub mod Whole
pub mod Plain
