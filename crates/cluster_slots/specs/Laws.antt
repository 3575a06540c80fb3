pub mod Loops
pub mod Kept
pub mod Covers
pub mod Choice
pub mod Nearest
pub mod Zeros
pub mod Places
