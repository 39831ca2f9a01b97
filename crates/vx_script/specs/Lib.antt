pub mod Lines
pub mod Statuses
pub mod Playing
pub mod Held
pub mod Working
pub mod Outcome
