pub mod Told
pub mod Log
pub mod Report
pub mod Streets
pub mod Standing
