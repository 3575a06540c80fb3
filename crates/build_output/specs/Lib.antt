pub mod Placed
pub mod Settled
