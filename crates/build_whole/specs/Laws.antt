pub mod Kept
pub mod Listed
pub mod Agree
pub mod Whole
