pub mod Documents
pub mod TermKeys
pub mod Places
pub mod Bounds
pub mod Ranges
pub mod Cases
