pub mod Ranked
pub mod Passes
pub mod Indexes
pub mod Sizes
pub mod Room
pub mod Searched
