pub mod Order
pub mod Stores
pub mod Lanes
pub mod Leaving
