pub mod Laws
pub mod Grouping
pub mod Lending
pub mod Making
