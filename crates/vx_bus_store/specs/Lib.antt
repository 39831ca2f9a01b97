pub mod Stores
pub mod Stands
pub mod FlowChanges
pub mod Limits
pub mod Leaving
