pub mod Gathering
pub mod Approximate
pub mod Staying
