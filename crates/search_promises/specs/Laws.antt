pub mod Ran
pub mod Ended
pub mod Seen
pub mod Counts
pub mod Evaluated
pub mod Worst
pub mod Corners
