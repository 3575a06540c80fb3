pub mod Summaries
pub mod Answers
pub mod Steps
pub mod Promises
pub mod Laws
