pub mod Grammar
pub mod Reading
pub mod Tables
pub mod Lines
pub mod Reasons
pub mod Made
