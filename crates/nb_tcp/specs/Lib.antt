pub mod Order
pub mod Runs
pub mod Kept
pub mod Takes
