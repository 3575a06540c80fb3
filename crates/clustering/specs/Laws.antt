pub mod Clustered
pub mod Enough
pub mod Uncut
