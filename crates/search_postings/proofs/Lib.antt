pub mod Together
pub mod Probes
pub mod Steps
