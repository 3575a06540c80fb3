pub mod Ran
pub mod Ended
pub mod Seen
pub mod Counts
pub mod Demand
pub mod Chain
pub mod Laws
