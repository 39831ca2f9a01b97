pub mod Choices
pub mod Runs
pub mod Forms
pub mod Built
pub mod Deploys
