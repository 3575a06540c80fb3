pub mod Loops
pub mod Ends
pub mod Keys
pub mod Passed
pub mod Steps
