pub mod Conns
pub mod Waiting
