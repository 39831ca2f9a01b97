pub mod Merging
pub mod Splits
pub mod Lining
pub mod Laning
pub mod Returning
pub mod Gaps
pub mod Leaving
