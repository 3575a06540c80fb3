pub mod Case
pub mod Kinds
