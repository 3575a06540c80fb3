pub mod Packing
pub mod Cases
