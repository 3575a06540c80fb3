pub mod Reading
pub mod Through
pub mod Laws
