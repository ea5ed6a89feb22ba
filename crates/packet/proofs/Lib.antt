-- The laws of `packet`.
pub mod Looks
pub mod Fragments
pub mod Theorems
