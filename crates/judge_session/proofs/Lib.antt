pub mod Adding
pub mod Versions
pub mod Watching
pub mod Judging
pub mod KnownTables
pub mod Lengths
pub mod KnownParts
