pub mod Moving
pub mod Knowing
pub mod Starting
pub mod Stands
pub mod Calls
pub mod Ending
