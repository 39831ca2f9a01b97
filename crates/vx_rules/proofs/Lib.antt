pub mod Limits
pub mod Objects
