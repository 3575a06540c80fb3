pub mod Index
pub mod Filled
pub mod Scores
pub mod Lookup
pub mod Walks
pub mod Passes
pub mod Steps
