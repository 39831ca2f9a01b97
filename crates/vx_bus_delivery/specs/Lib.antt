pub mod Passages
pub mod Deliveries
pub mod Ending
pub mod Lost
