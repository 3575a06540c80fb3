pub mod First
pub mod Numbered
