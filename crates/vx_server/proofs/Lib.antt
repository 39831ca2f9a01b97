pub mod Places
pub mod Listeners
