pub mod Adding
pub mod Forms
pub mod FrameKinds
pub mod LastFields
pub mod Members
pub mod Texts
pub mod Valued
