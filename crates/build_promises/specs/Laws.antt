pub mod Greatest
pub mod Made
pub mod Shown
pub mod Cases
