pub mod AfterPush
