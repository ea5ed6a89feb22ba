-- The laws of `steering` that other crates cite.
pub mod Choices
pub mod Theorems
