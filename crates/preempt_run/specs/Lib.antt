pub mod PreemptsKeep
pub mod Passed
