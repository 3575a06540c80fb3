pub mod Clusters
pub mod Ranks
pub mod Promises
pub mod Laws
