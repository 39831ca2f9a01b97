pub mod Outgoing
pub mod Written
