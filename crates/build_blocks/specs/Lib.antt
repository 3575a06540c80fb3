pub mod Fits
pub mod Longest
