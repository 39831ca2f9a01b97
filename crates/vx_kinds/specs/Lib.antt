pub mod Rules
pub mod States
pub mod Kinds
pub mod Hosts
pub mod Meaning
