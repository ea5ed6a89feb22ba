-- The laws behind the promises of `messages`, and the theorems over its definitions.
pub mod Powers
pub mod Tables
pub mod AckOctets
pub mod Types
pub mod Checks
pub mod Statuses
pub mod Effects
pub mod Looks
pub mod Parts
pub mod Goodness
pub mod Theorems
