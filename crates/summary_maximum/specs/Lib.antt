pub mod Maximum
pub mod Meeting
pub mod Changes
pub mod Laws
