-- The laws that more than one crate cites.
pub mod Truth
pub mod Outcomes
pub mod Copies
pub mod Numbers
pub mod Lengths
