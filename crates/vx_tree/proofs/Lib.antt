pub mod Below
pub mod Noted
pub mod Settled
pub mod Added
pub mod Stops
