pub mod ExchangeLaws
pub mod InsertionLaws
pub mod QuickLaws
pub mod PlacedLaws
pub mod ReverseLaws
