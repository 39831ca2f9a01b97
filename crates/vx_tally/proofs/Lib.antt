pub mod Adds
pub mod Calls
