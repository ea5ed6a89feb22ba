-- The parts of the structs that are lent.
pub mod Parts
pub mod Theorems
