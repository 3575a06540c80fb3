pub mod ReadBack
pub mod Walk
pub mod WalkLaws
pub mod Promises
pub mod Cases
