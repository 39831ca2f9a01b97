pub mod Queues
pub mod Outs
