pub mod Laid
pub mod Worst
