pub mod Fewer
pub mod Turns
pub mod HeldArrivals
pub mod LostRows
pub mod LostRequests
pub mod EndedRequests
