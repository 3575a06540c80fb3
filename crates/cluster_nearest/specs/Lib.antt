pub mod Nearest
pub mod Scored
pub mod Keys
pub mod Laws
