-- The laws of `ring` that other crates cite.
pub mod Turns
pub mod Steps
pub mod Sides
pub mod Holdings
