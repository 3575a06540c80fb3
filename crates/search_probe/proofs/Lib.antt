pub mod Admitted
pub mod Counted
pub mod Laid
pub mod Probes
pub mod Through
