pub mod Index
pub mod Walks
pub mod Laws
pub mod Lent
