pub mod Ranges
pub mod Outcomes
pub mod Postings
pub mod Pairs
pub mod Laws
pub mod Lent
