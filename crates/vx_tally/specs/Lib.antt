pub mod Kept
pub mod Tallies
pub mod Calls
