pub mod Counts
pub mod Finishing
pub mod Left
pub mod Whole
pub mod Promises
pub mod Once
pub mod Cases
