pub mod Layouts
pub mod Passes
pub mod Placing
pub mod Counted
pub mod Keys
pub mod Near
pub mod Laws
