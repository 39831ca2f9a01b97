pub mod Compacting
pub mod PartSteps
pub mod ReadParts
pub mod TakeParts
