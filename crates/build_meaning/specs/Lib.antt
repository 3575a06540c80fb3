pub mod Built
pub mod Needs
pub mod Building
pub mod Promises
pub mod Laws
