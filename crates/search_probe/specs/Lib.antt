pub mod Probing
pub mod Probed
pub mod Laws
pub mod Lent
