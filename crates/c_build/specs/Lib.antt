pub mod Chosen
pub mod Shown
