pub mod Cuts
pub mod Nexts
pub mod Streams
