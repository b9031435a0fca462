mod Kept
mod Plans
