pub mod Moves
pub mod Tasks
pub mod Said
