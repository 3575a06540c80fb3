pub mod Layout
pub mod WellFormed
pub mod Scores
pub mod ReadBack
pub mod Walk
pub mod Promises
pub mod Laws
pub mod Lent
