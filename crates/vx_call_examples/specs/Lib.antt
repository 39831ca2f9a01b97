pub mod Forms
pub mod Examples
pub mod Verticles
pub mod Promises
pub mod Connections
pub mod Crowds
pub mod Joined
pub mod Refused
