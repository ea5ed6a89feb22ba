-- The laws of `capture`.
pub mod Orders
pub mod Heads
pub mod Steps
pub mod Falls
pub mod Found
pub mod Frames
pub mod Theorems
pub mod Exactly
pub mod Joined
pub mod Progress
pub mod Readers
