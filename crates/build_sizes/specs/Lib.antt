pub mod Sized
pub mod Laws
