-- The theorems on the two ends, and the laws behind them.
pub mod Points
pub mod Messages
pub mod Writing
pub mod Hosting
pub mod Collecting
pub mod Rounds
pub mod Theorems
