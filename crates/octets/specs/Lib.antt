-- The definitions that more than one crate cites.
pub mod Prelude
pub mod Outcome
pub mod Numbers
