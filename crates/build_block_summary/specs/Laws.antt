pub mod Cuts
pub mod Kept
