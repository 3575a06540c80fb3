pub mod Each
pub mod Groups
pub mod Sorted
pub mod Greatest
pub mod Lists
