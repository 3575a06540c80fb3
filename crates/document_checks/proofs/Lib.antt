pub mod Loops
pub mod Listed
