pub mod Fields
pub mod Files
pub mod Kinds
pub mod Limits
pub mod Outlines
pub mod Texts
pub mod Verdicts
