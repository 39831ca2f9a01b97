pub mod Kept
pub mod Instances
pub mod Laws
