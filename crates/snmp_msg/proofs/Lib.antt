pub mod Rooms
pub mod BindingLaws
pub mod MessageLaws
pub mod WrittenLaws
pub mod Least
pub mod Into
pub mod HeadLaws
