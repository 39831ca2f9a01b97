pub mod Selections
pub mod MadeReady
pub mod UnregisterConsumers
pub mod UnregisterRequests
pub mod RowRegister
pub mod RowUnregister
pub mod RowFlow
