pub mod Documents
pub mod Lent
pub mod Checks
pub mod Answers
pub mod TermKeys
pub mod Sought
pub mod Laws
