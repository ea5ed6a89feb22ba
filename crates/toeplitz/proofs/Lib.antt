-- The laws that belong to no one function, and the theorems that readers ask for (Theorems).
pub mod Sums
pub mod Linear
pub mod Windows
pub mod Mirror
pub mod OneBit
pub mod Lowest
pub mod TwoWays
pub mod Period
pub mod Reverses
pub mod Outcomes
pub mod Theorems
pub mod Types
