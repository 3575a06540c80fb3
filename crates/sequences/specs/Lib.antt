pub mod Lists
pub mod Groups
pub mod Laws
