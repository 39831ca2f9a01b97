pub mod Views
pub mod Waits
pub mod Named
pub mod RowTake
