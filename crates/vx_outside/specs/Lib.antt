pub mod Clocks
pub mod Loading
