pub mod Nearest
pub mod Chain
pub mod Steps
pub mod Drift
pub mod Extremes
pub mod Ends
pub mod Accepted
pub mod Cases
