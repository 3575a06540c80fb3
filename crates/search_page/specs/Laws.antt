pub mod Through
pub mod Zeros
pub mod Score
pub mod Laid
pub mod Walk
pub mod Reads
pub mod Pairs
pub mod Cases
