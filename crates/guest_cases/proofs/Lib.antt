-- Setup.
pub mod Setup
