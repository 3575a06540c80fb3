pub mod Tallied
pub mod Fronts
