pub mod Firsts
pub mod Changes
pub mod Meetings
pub mod After
pub mod Limited
