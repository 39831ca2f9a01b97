pub mod Compact
pub mod Forms
pub mod Parts
pub mod Reading
pub mod Seen
