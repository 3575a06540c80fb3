-- definitions
pub mod Units
pub mod Order
pub mod Key
pub mod Bound
pub mod Rounding
pub mod Count
pub mod Fitting
-- laws of rounding: one rounding, one operation, in units of 2 ^ -149
-- laws of the definitions
pub mod Lengths
-- sums that stay finite
pub mod Sums
-- worked values
pub mod Laws
