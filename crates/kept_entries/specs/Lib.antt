pub mod Answers
pub mod Entries
pub mod Promises
pub mod Laws
