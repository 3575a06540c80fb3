pub mod Approximate
pub mod Laws
