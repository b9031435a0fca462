pub mod Lines
pub mod Requests
pub mod Unread
pub mod Words
