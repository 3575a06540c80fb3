pub mod Quantizing
pub mod Demand3
pub mod Extremes
pub mod Ends
pub mod Accepted
pub mod Promises
pub mod Laws
