pub mod Refusals
pub mod First
pub mod Laws
