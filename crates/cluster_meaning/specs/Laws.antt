pub mod Ordered
pub mod Ranks
pub mod Canonical
pub mod Members
pub mod Search
pub mod Pairs
pub mod Cases
