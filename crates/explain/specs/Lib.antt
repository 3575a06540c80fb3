pub mod Turns
pub mod Reasons
