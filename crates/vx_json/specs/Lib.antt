pub mod Answers
pub mod Begins
pub mod Gives
pub mod Grammar
pub mod Keeps
pub mod Nexts
pub mod Reading
pub mod Texts
