pub mod Built
pub mod Needs
pub mod Left
pub mod Shares
pub mod Blocks
pub mod Offsets
pub mod Stored
pub mod Cases
