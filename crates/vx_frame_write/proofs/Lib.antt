pub mod Closing
pub mod Naming
