pub mod ClosedContexts
pub mod Losses
pub mod ClosedRequests
pub mod ClosedTurns
pub mod ClosedTasks
pub mod RowClose
