pub mod Ranked
pub mod Passes
pub mod Indexes
pub mod Room
pub mod Laws
