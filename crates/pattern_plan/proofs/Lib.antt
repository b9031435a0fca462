mod Greatest
mod Sides
mod Points
pub mod ActivePattern
