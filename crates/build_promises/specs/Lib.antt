pub mod Greatest
pub mod Shared
pub mod Near
pub mod Made
pub mod Shown
pub mod Laws
