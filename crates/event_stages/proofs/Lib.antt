-- What the stages of an event did, and how it is stored.
pub mod Parts
pub mod Stored
