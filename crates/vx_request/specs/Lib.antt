pub mod Stores
pub mod Leaving
