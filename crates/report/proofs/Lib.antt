-- The laws of `report`.
pub mod Tallies
pub mod Counters
pub mod Readings
pub mod Orders
pub mod Sums
pub mod Theorems
