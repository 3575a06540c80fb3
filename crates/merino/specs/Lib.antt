pub mod Pushed
pub mod AfterPush
pub mod Laws
