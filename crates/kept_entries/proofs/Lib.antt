pub mod Climbing
pub mod Checks
pub mod Rising
pub mod Settles
pub mod Verdicts
