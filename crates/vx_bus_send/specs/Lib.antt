pub mod Published
pub mod Calls
