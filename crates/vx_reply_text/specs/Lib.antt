pub mod Replies
pub mod Groups
