pub mod Answers
pub mod Calls
pub mod Begun
pub mod NoOnces
pub mod Played
