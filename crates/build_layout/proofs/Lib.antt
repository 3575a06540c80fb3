pub mod Filled
pub mod Wrote
