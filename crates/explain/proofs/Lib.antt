pub mod Turns
pub mod Fates
pub mod Kept
