pub mod Limits
pub mod Blocking
pub mod Blocks
pub mod Promises
pub mod Laws
