pub mod Open
pub mod LoaderTold
pub mod Posting
pub mod Fits
pub mod Rounds
pub mod Each
pub mod Polled
