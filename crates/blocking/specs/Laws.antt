pub mod Limits
pub mod Blocking
pub mod Shares
pub mod Cases
