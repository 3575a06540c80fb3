pub mod Sorted
pub mod Ranked
pub mod Steps
pub mod Promises
pub mod Laws
